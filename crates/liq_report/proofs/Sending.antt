-- The tokens that are written for what is sent.
use Rattle.std.proofs.Common.{◌≡◌, ℕ, List, [], ◌∷◌, ◌++◌, Bool, true, false, ◌||◌, Some, None, inl, inr, refl, sym, ap, subst, ◌∙◌, arith, append_assoc, codes}
use Rattle.std.proofs.lemmas.Grind.{common_steps}
use Rattle.json.specs.Token as json
use Rattle.json.specs.Token.{Token}
use Rattle.json.specs.Lex.{tokens}
use Rattle.json.specs.Print.{print}
use Rattle.json.specs.Tree.{json_tokens, items_tokens, members_tokens}
use Rattle.serde.specs.Event as event
use Rattle.serde.specs.Event.{Event, Log, Logs}
use Rattle.serde.specs.declared.name.Case.TheVariants.{AsIs}
use Rattle.serde.specs.declared.name.NameKind.TheVariants.{Field}
use Rattle.serde.proofs.Spellings.{spelled-AsIs}
use Rattle.serde_json.specs.Data.{Num, unsigned, negative, float, Data, null, boolean, number, string, array, object, Items, no_items, item, Members, no_members, member}
use Rattle.serde_json.specs.Events.{number_event, items_len, members_len, SendsValue, SendsItems, SendsMembers}
use Rattle.serde_json.specs.Sent.{State, start, Takes, TakesAll, IsTextOf}
use Rattle.serde_json.specs.View.{items_of}
use Rattle.serde_json.specs.Written.{outline, items_outline, members_outline, has_float, items_have_float, members_have_float}
use Rattle.serde_json.proofs.FreeTexts.{tokens_by}
use Rattle.serde_json.proofs.Texts.{print-outline}
use Rattle.liq_types.specs.State as liq
use Rattle.liq_stability.specs.Words.{pool_words}
use Rattle.liq_report.specs.Report.{report_text}
use Rattle.liq_report.specs.Sent.{SendsList, SendsNamed, SendsReport}
use Rattle.liq_report.specs.Values.{deposits_data, pool_data, report_data, totals_data, totals_of, troves_data}
use Rattle.liq_report.proofs.Written.{deposits_plain, report_written, troves_plain}

-- ---- steps

-- no key is due, and no object is without its braces
abbrev IsPlain : State → Type 0
IsPlain s = (s.at_key ≡ false) × (s.flattens ≡ false) × (s.flat ≡ [])

abbrev Adds : State → List Token → State → Type 0
Adds old ts new = IsPlain new × (new.tokens ≡ old.tokens ++ ts)

-- known events grow by some for which these tokens are written
abbrev Gives : Log → List Token → Log → Type 0
Gives old ts new = (es : List Event) → old ≡ Some es → (more : List Event) × (new ≡ Some (es ++ more))
    × ((s last : State) → IsPlain s → TakesAll s more last → Adds s ts last)

one : (e : Event) (ts : List Token) → ((s m : State) → IsPlain s → Takes s e m → Adds s ts m)
    → (old new : Log) → Logs old new e → Gives old ts new
one e ts step old new sent es known = (
  e ∷ [],
  subst (λ (l : Log). Logs l new e) known sent,
  λ s last plain run. subst (λ (m : State). Adds s ts m) (sym run.2) (step s run.0 plain run.1),
)

splits : (xs ys : List Event) (s last : State) → TakesAll s (xs ++ ys) last
    → (mid : State) × TakesAll s xs mid × TakesAll mid ys last
splits [] ys s last run = (s, refl, run)
splits (x ∷ xs) ys s last run =
    let rest = splits xs ys run.0 last run.2 in
    (rest.0, (run.0, run.1, rest.1), rest.2)

both : (ts us : List Token) (a b c : Log) → Gives a ts b → Gives b us c → Gives a (ts ++ us) c
both ts us a b c first second es known =
    let f = first es known in
    let g = second (es ++ f.0) f.1 in (
      f.0 ++ g.0,
      g.1 ∙ ap Some (append_assoc es f.0 g.0),
      λ s last plain run.
          let cut = splits f.0 g.0 s last run in
          let left = f.2 s cut.0 plain cut.1 in
          let right = g.2 cut.0 last left.0 cut.2 in
          (right.0, right.1 ∙ ap (λ (xs : List Token). xs ++ us) left.1 ∙ append_assoc s.tokens ts us),
    )

-- ---- each event

number_adds : (n : Num) (s m : State) → has_float (number n) ≡ false → IsPlain s → Takes s (number_event n) m
    → Adds s (json_tokens (outline (number n))) m
number_adds (unsigned n) s m whole plain step = grind (arith, common_steps)
number_adds (negative z) s m whole plain step = grind (arith, common_steps)
number_adds (float x) s m whole plain step = absurd cc

map_ends : (s m : State) → IsPlain s → Takes s event.map_ends m → Adds s (json.end_object ∷ []) m
map_ends s m plain step = elim step [
  | inl flat ↦ absurd (grind (arith, common_steps, flat.1, plain.2))
  | inr braced ↦ grind (arith, common_steps, braced.1)
]

key_adds : (k : List ℕ) (s m : State) → IsPlain s → Takes s (event.field_key k AsIs) m → Adds s (json.key k ∷ []) m
key_adds k s m plain step = grind (arith, common_steps, step, spelled-AsIs Field k)

-- ---- each value

left_false : (a b : Bool) → (a || b) ≡ false → a ≡ false
left_false true b h = h
left_false false b h = refl

right_false : (a b : Bool) → (a || b) ≡ false → b ≡ false
right_false true b h = absurd cc
right_false false b h = h

mutual
  value_gives : (d : Data) (old new : Log) → has_float d ≡ false → SendsValue d old new
      → Gives old (json_tokens (outline d)) new
  value_gives null old new whole h =
      one event.nothing (json.null ∷ []) (λ s m plain step. grind (arith, common_steps, step)) old new h
  value_gives (boolean b) old new whole h =
      one (event.boolean b) (json.boolean b ∷ []) (λ s m plain step. grind (arith, common_steps, step)) old new h
  value_gives (number n) old new whole h =
      one (number_event n) (json_tokens (outline (number n))) (λ s m plain step. number_adds n s m whole plain step)
      old new h
  value_gives (string t) old new whole h =
      one (event.text t) (json.string t ∷ []) (λ s m plain step. grind (arith, common_steps, step)) old new h
  value_gives (array ds) old new whole h =
      both (json.begin_array ∷ []) _ old h.0 new
      (one (event.seq_begins (Some (items_len ds))) (json.begin_array ∷ [])
      (λ s m plain step. grind (arith, common_steps, step.1)) old h.0 h.1)
      (items_give ds h.0 new whole h.2)
  value_gives (object ms) old new whole h =
      both (json.begin_object ∷ []) _ old h.0 new
      (one (event.map_begins (Some (members_len ms))) (json.begin_object ∷ [])
      (λ s m plain step. grind (arith, common_steps, step)) old h.0 h.1)
      (members_give ms h.0 new whole h.2)

  items_give : (ds : Items) (old new : Log) → items_have_float ds ≡ false → SendsItems ds old new
      → Gives old (items_tokens (items_outline ds)) new
  items_give no_items old new whole h =
      one event.seq_ends (json.end_array ∷ []) (λ s m plain step. grind (arith, common_steps, step)) old new h
  items_give (item d ds) old new whole h =
      both _ _ old h.0 new (value_gives d old h.0 (left_false _ _ whole) h.1)
      (items_give ds h.0 new (right_false _ _ whole) h.2)

  members_give : (ms : Members) (old new : Log) → members_have_float ms ≡ false → SendsMembers ms old new
      → Gives old (members_tokens (members_outline ms)) new
  members_give no_members old new whole h =
      one event.map_ends (json.end_object ∷ []) map_ends old new h
  members_give (member k d ms) old new whole h =
      both (json.key k ∷ []) _ old h.0 new
      (one (event.field_key k AsIs) (json.key k ∷ []) (key_adds k) old h.0 h.2)
      (both _ _ h.0 h.1 new (value_gives d h.0 h.1 (left_false _ _ whole) h.3)
      (members_give ms h.1 new (right_false _ _ whole) h.4))

-- a list whose length is not told ahead
list_gives : (ds : List Data) → items_have_float (items_of ds) ≡ false → (old new : Log) → SendsList ds old new
    → Gives old (json_tokens (outline (array (items_of ds)))) new
list_gives ds whole old new h =
    both (json.begin_array ∷ []) _ old h.0 new
    (one (event.seq_begins None) (json.begin_array ∷ []) (λ s m plain step. grind (arith, common_steps, step.1)) old
    h.0 h.1)
    (items_give (items_of ds) h.0 new whole h.2)

named_gives : (k : List ℕ) (d : Data) (us : List Token) (Value Rest : Log → Log → Type 0)
    → ((a b : Log) → Value a b → Gives a (json_tokens (outline d)) b) → ((a b : Log) → Rest a b → Gives a us b)
    → (old new : Log) → SendsNamed k Value Rest old new → Gives old (json.key k ∷ (json_tokens (outline d) ++ us)) new
named_gives k d us Value Rest value rest old new h =
    both (json.key k ∷ []) _ old h.0 new
    (one (event.field_key k AsIs) (json.key k ∷ []) (key_adds k) old h.0 h.2)
    (both _ _ h.0 h.1 new (value h.0 h.1 h.3) (rest h.1 new h.4))

-- ---- the whole

report_gives : (s : liq.State) (old new : Log) → SendsReport s old new → Gives old
    (json_tokens (outline (report_data s))) new
report_gives s old new h =
    both (json.begin_object ∷ []) _ old h.0 new
    (one (event.map_begins (Some 4)) (json.begin_object ∷ []) (λ t m plain step. grind (arith, common_steps, step)) old
    h.0 h.1)
    (named_gives (codes "deposits") (array (items_of (deposits_data s))) _ _ _
    (list_gives (deposits_data s) (deposits_plain s))
    (named_gives (codes "pool") (pool_data (pool_words s)) _ _ _
    (λ a b sent. value_gives (pool_data (pool_words s)) a b refl sent)
    (named_gives (codes "system") (totals_data (totals_of s)) _ _ _
    (λ a b sent. value_gives (totals_data (totals_of s)) a b refl sent)
    (named_gives (codes "troves") (array (items_of (troves_data s))) _ _ _
    (list_gives (troves_data s) (troves_plain s))
    (λ a b sent. one event.map_ends (json.end_object ∷ []) map_ends a b sent))))
    h.0 new h.2)

-- the text that is written for what is sent of a report
pub text_of_report : (s : liq.State) (log : Log) (text : List ℕ) → SendsReport s (Some []) log → IsTextOf log text
    → text ≡ report_text s
text_of_report s log text sent is =
    let all = report_gives s (Some []) log sent [] refl in
    let same : tokens text ≡ json_tokens (outline (report_data s)) =
    tokens_by false all.0 log (tokens text) (json_tokens (outline (report_data s))) all.1 is.0
    (λ last run. (all.2 (start false) last (refl, refl, refl) run).1) in
    is.1 ∙ ap print same ∙ print-outline (report_data s) ∙ report_written s
