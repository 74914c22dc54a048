-- The words of a request: what is read is spelled, and what is spelled is read.
use Rattle.std.proofs.Common.{◌≡◌, ℕ, ◌^◌, ◌<◌, Bool, true, false, cond, List, [], ◌∷◌, Option, Some, None, refl, sym, ap, subst, ◌∙◌, arith, inl, inr}
use Rattle.std.specs.Prelude.{decimal, codes}
use Rattle.std.specs.Char.{digit_value}
use Rattle.std.specs.List.{AllByRecursion}
use Rattle.std.specs.Str.{bytes_eq}
use Rattle.std.specs.Str.Parse.{IsNumeral}
use Rattle.std.proofs.lemmas.Fmt.{decimal_is_IsNumeral}
use Rattle.std.proofs.lemmas.Option.{same_Some, none-some}
use Rattle.std.proofs.lemmas.Slice.Eq.{bytes_eq-Decides}
use Rattle.liq_types.specs.declared.requests.Request.{Request}
use Rattle.liq_types.specs.declared.requests.Request.TheVariants.{Do, Ask}
use Rattle.liq_types.specs.declared.requests.Command.{Command}
use Rattle.liq_types.specs.declared.requests.Call.{Call}
use Rattle.liq_types.specs.declared.requests.Call.TheVariants as calls
use Rattle.liq_types.specs.declared.requests.Query.{Query}
use Rattle.liq_types.specs.declared.requests.Query.TheVariants as queries
use Rattle.liq_text.specs.declared.names.Verb.{Verb}
use Rattle.liq_text.specs.declared.names.Verb.TheVariants as verbs
use Rattle.liq_text.specs.Topics.{Topic}
use Rattle.liq_text.specs.Topics as topics
use Rattle.liq_text.specs.declared.names.TheConstants.{VERBS}
use Rattle.liq_text.specs.Names.{named, verb_of, topics as topic_names, topic_of}
use Rattle.liq_text.proofs.Named.{verb_name, topic_name}
use Rattle.liq_text.specs.Spelling.{Word, text, account, number, Spell, SpellEach, call_words, query_words, request_words}
use Rattle.liq_text.specs.Reading.{◌>>=◌, number_of, account_of, first, others, fields, verb_kinds, call_with, topic_kinds, query_with, arguments_of, subject_of, call_of, query_of, request_of}
use Rattle.liq_text.proofs.ReadingLaws.{number_of-decimal, number_of-some, yes}
use Rattle.liq_text.proofs.SpellingLaws.{bind_some, either_some, account_takes, account_again, Values, words_of, made, fields_take, fields_again, plain, IsPlain, plain_spelled, plain_words_of, plain_each}
use Rattle.std.proofs.lemmas.Bool.{false_from_ne_true}

-- the pieces that spell a list of words with a first one
record SpellParts (pieces : List (List ℕ)) (word : Word) (words : List Word) : Type 0 where
  piece : List ℕ
  rest : List (List ℕ)
  first_is : pieces ≡ piece ∷ rest
  head : Spell piece word
  tail : SpellEach rest words

spell_parts : (pieces : List (List ℕ)) (word : Word) (words : List Word) → SpellEach pieces (word ∷ words)
    → SpellParts pieces word words
spell_parts [] word words s = absurd s
spell_parts (piece ∷ rest) word words s = record { piece = piece; rest = rest; first_is = refl; head = s.0; tail = s.1 }

-- ---- the verbs

-- the name that was found is how the word is written
module _ {R A : Type 0} (name : R → List ℕ) (meant : R → A) (name_of : A → List ℕ) where
  named_takes : (rows : List R) (word : List ℕ) (found : A)
      → AllByRecursion (λ (row : R). name row ≡ name_of (meant row)) rows → named name meant rows word ≡ Some found
      → word ≡ name_of found
  named_takes [] word found all e = absurd cc
  named_takes (row ∷ rows) word found all e = elim (either_some (bytes_eq word (name row)) (Some (meant row))
      (named name meant rows word) found e) [
        | inl g ↦ (bytes_eq-Decides word (name row)).0 g.0 ∙ all.0 ∙ ap name_of (same_Some (meant row) found g.1)
        | inr g ↦ named_takes rows word found all.1 g.1
      ]

verb_takes : (word : List ℕ) (found : Verb) → verb_of word ≡ Some found → word ≡ verb_name found
verb_takes word found e = named_takes (λ row. row.0.now) (λ row. row.1) verb_name VERBS word found
    ((
      refl,
      (
        refl,
        (
          refl,
          (
            refl,
            (refl, (refl, (refl, (refl, (refl, (refl, (refl, (refl, (refl, (refl, (refl, (refl, tt)))))))))))),
          ),
        ),
      ),
    )) e

verb_again : (verb : Verb) → verb_of (verb_name verb) ≡ Some verb
verb_again verbs.Price = refl
verb_again verbs.Advance = refl
verb_again verbs.Fund = refl
verb_again verbs.Take = refl
verb_again verbs.Send = refl
verb_again verbs.Open = refl
verb_again verbs.Adjust = refl
verb_again verbs.Close = refl
verb_again verbs.Provide = refl
verb_again verbs.Withdraw = refl
verb_again verbs.GainToTrove = refl
verb_again verbs.Liquidate = refl
verb_again verbs.LiquidateLowest = refl
verb_again verbs.Redeem = refl
verb_again verbs.Claim = refl
verb_again verbs.Rotate = refl

verb_plain : (verb : Verb) → plain (verb_name verb) ≡ true
verb_plain verbs.Price = refl
verb_plain verbs.Advance = refl
verb_plain verbs.Fund = refl
verb_plain verbs.Take = refl
verb_plain verbs.Send = refl
verb_plain verbs.Open = refl
verb_plain verbs.Adjust = refl
verb_plain verbs.Close = refl
verb_plain verbs.Provide = refl
verb_plain verbs.Withdraw = refl
verb_plain verbs.GainToTrove = refl
verb_plain verbs.Liquidate = refl
verb_plain verbs.LiquidateLowest = refl
verb_plain verbs.Redeem = refl
verb_plain verbs.Claim = refl
verb_plain verbs.Rotate = refl

verb_words : (verb : Verb) (values : Values (verb_kinds verb))
    → call_words (made (verb_kinds verb) (call_with verb) values) ≡ text (verb_name verb)
    ∷ words_of (verb_kinds verb) values
verb_words verbs.Price values = refl
verb_words verbs.Advance values = refl
verb_words verbs.Fund values = refl
verb_words verbs.Take values = refl
verb_words verbs.Send values = refl
verb_words verbs.Open values = refl
verb_words verbs.Adjust values = refl
verb_words verbs.Close values = refl
verb_words verbs.Provide values = refl
verb_words verbs.Withdraw values = refl
verb_words verbs.GainToTrove values = refl
verb_words verbs.Liquidate values = refl
verb_words verbs.LiquidateLowest values = refl
verb_words verbs.Redeem values = refl
verb_words verbs.Claim values = refl
verb_words verbs.Rotate values = refl

-- a call is made of the values behind its name
record IsCallWith (x : Call) : Type 0 where
  key : Verb
  values : Values (verb_kinds key)
  same : x ≡ made (verb_kinds key) (call_with key) values

verb_values : (x : Call) → IsCallWith x
verb_values (calls.Price price) = record { key = verbs.Price; values = (price, tt); same = refl }
verb_values (calls.Advance minutes) = record { key = verbs.Advance; values = (minutes, tt); same = refl }
verb_values (calls.Fund owner coll) = record { key = verbs.Fund; values = (owner, (coll, tt)); same = refl }
verb_values (calls.Take owner coll) = record { key = verbs.Take; values = (owner, (coll, tt)); same = refl }
verb_values (calls.Send from to lusd) = record { key = verbs.Send; values = (from, (to, (lusd, tt))); same = refl }
verb_values (calls.Open owner coll borrow bound h) =
    record { key = verbs.Open; values = (owner, (coll, (borrow, (bound, (h.prev, (h.next, tt)))))); same = refl }
verb_values (calls.Adjust owner coll_in coll_out borrow repay bound h) =
    record {
      key = verbs.Adjust;
      values = (owner, (coll_in, (coll_out, (borrow, (repay, (bound, (h.prev, (h.next, tt))))))));
      same = refl;
    }
verb_values (calls.Close owner) = record { key = verbs.Close; values = (owner, tt); same = refl }
verb_values (calls.Provide owner lusd) = record { key = verbs.Provide; values = (owner, (lusd, tt)); same = refl }
verb_values (calls.Withdraw owner lusd) = record { key = verbs.Withdraw; values = (owner, (lusd, tt)); same = refl }
verb_values (calls.GainToTrove owner h) = record {
  key = verbs.GainToTrove;
  values = (owner, (h.prev, (h.next, tt)));
  same = refl;
}
verb_values (calls.Liquidate liquidator owner) = record {
  key = verbs.Liquidate;
  values = (liquidator, (owner, tt));
  same = refl;
}
verb_values (calls.LiquidateLowest liquidator count) = record {
  key = verbs.LiquidateLowest;
  values = (
    liquidator,
    (count, tt),
  );
  same = refl;
}
verb_values (calls.Redeem owner lusd bound h) =
    record { key = verbs.Redeem; values = (owner, (lusd, (bound, (h.prev, (h.next, tt))))); same = refl }
verb_values (calls.Claim owner) = record { key = verbs.Claim; values = (owner, tt); same = refl }
verb_values calls.Rotate = record { key = verbs.Rotate; values = tt; same = refl }

pub call_takes : (pieces : List (List ℕ)) (x : Call) → call_of pieces ≡ Some x → SpellEach pieces (call_words x)
unfolding call_of first others arguments_of
call_takes [] x e = absurd cc
call_takes (word ∷ pieces) x e =
    let b = bind_some (verb_of word) (λ verb. fields (verb_kinds verb) (call_with verb) pieces) x e in
    let f = fields_take (verb_kinds b.0) (call_with b.0) pieces x b.2 in
    let words : call_words x ≡ text (verb_name b.0) ∷ words_of (verb_kinds b.0) f.0 = ap call_words f.1
    ∙ verb_words b.0 f.0 in
    rw words (verb_takes word b.0 b.1, f.2)

call_made : (word : List ℕ) (pieces : List (List ℕ)) (verb : Verb) (values : Values (verb_kinds verb))
    → word ≡ verb_name verb → SpellEach pieces (words_of (verb_kinds verb) values)
    → call_of (word ∷ pieces) ≡ Some (made (verb_kinds verb) (call_with verb) values)
unfolding call_of first others arguments_of
call_made word pieces verb values e s = ap (λ (o : Option Verb). o >>= λ k. fields (verb_kinds k) (call_with k) pieces)
    (ap verb_of e ∙ verb_again verb) ∙ fields_again (verb_kinds verb) (call_with verb) pieces values s

pub call_again : (pieces : List (List ℕ)) (x : Call) → SpellEach pieces (call_words x) → call_of pieces ≡ Some x
call_again pieces x s =
    let m = verb_values x in
    let words : call_words x ≡ text (verb_name m.key) ∷ words_of (verb_kinds m.key) m.values = ap call_words m.same
    ∙ verb_words m.key m.values in
    let t : SpellEach pieces (text (verb_name m.key) ∷ words_of (verb_kinds m.key) m.values) =
    subst (λ (ws : List Word). SpellEach pieces ws) words s in
    let parts = spell_parts pieces (text (verb_name m.key)) (words_of (verb_kinds m.key) m.values) t in
    ap call_of parts.first_is ∙ call_made parts.piece parts.rest m.key m.values parts.head parts.tail
    ∙ ap Some (sym m.same)

pub call_plain : (pieces : List (List ℕ)) (x : Call) → SpellEach pieces (call_words x) → AllByRecursion IsPlain pieces
call_plain pieces x s =
    let m = verb_values x in
    let words : call_words x ≡ text (verb_name m.key) ∷ words_of (verb_kinds m.key) m.values = ap call_words m.same
    ∙ verb_words m.key m.values in
    plain_each pieces (call_words x) (rw words (verb_plain m.key, plain_words_of (verb_kinds m.key) m.values)) s

-- ---- the topics

topic_takes : (word : List ℕ) (found : Topic) → topic_of word ≡ Some found → word ≡ topic_name found
topic_takes word found e = named_takes (λ row. row.0) (λ row. row.1) topic_name topic_names word found
    ((refl, (refl, (refl, (refl, (refl, (refl, tt))))))) e

topic_again : (topic : Topic) → topic_of (topic_name topic) ≡ Some topic
topic_again topics.Wallet = refl
topic_again topics.Trove = refl
topic_again topics.Deposit = refl
topic_again topics.Pools = refl
topic_again topics.System = refl
topic_again topics.NextNumber = refl

topic_plain : (topic : Topic) → plain (topic_name topic) ≡ true
topic_plain topics.Wallet = refl
topic_plain topics.Trove = refl
topic_plain topics.Deposit = refl
topic_plain topics.Pools = refl
topic_plain topics.System = refl
topic_plain topics.NextNumber = refl

topic_words : (topic : Topic) (values : Values (topic_kinds topic))
    → query_words (made (topic_kinds topic) (query_with topic) values) ≡ text (topic_name topic)
    ∷ words_of (topic_kinds topic) values
topic_words topics.Wallet values = refl
topic_words topics.Trove values = refl
topic_words topics.Deposit values = refl
topic_words topics.Pools values = refl
topic_words topics.System values = refl
topic_words topics.NextNumber values = refl

-- a query is made of the values behind its name
record IsQueryWith (x : Query) : Type 0 where
  key : Topic
  values : Values (topic_kinds key)
  same : x ≡ made (topic_kinds key) (query_with key) values

topic_values : (x : Query) → IsQueryWith x
topic_values (queries.Wallet owner) = record { key = topics.Wallet; values = (owner, tt); same = refl }
topic_values (queries.Trove owner) = record { key = topics.Trove; values = (owner, tt); same = refl }
topic_values (queries.Deposit owner) = record { key = topics.Deposit; values = (owner, tt); same = refl }
topic_values queries.Pools = record { key = topics.Pools; values = tt; same = refl }
topic_values queries.System = record { key = topics.System; values = tt; same = refl }
topic_values (queries.NextNumber client) = record { key = topics.NextNumber; values = (client, tt); same = refl }

pub query_takes : (pieces : List (List ℕ)) (x : Query) → query_of pieces ≡ Some x → SpellEach pieces (query_words x)
unfolding query_of first others subject_of
query_takes [] x e = absurd cc
query_takes (word ∷ pieces) x e =
    let b = bind_some (topic_of word) (λ topic. fields (topic_kinds topic) (query_with topic) pieces) x e in
    let f = fields_take (topic_kinds b.0) (query_with b.0) pieces x b.2 in
    let words : query_words x ≡ text (topic_name b.0) ∷ words_of (topic_kinds b.0) f.0 = ap query_words f.1
    ∙ topic_words b.0 f.0 in
    rw words (topic_takes word b.0 b.1, f.2)

query_made : (word : List ℕ) (pieces : List (List ℕ)) (topic : Topic) (values : Values (topic_kinds topic))
    → word ≡ topic_name topic → SpellEach pieces (words_of (topic_kinds topic) values)
    → query_of (word ∷ pieces) ≡ Some (made (topic_kinds topic) (query_with topic) values)
unfolding query_of first others subject_of
query_made word pieces topic values e s =
    ap (λ (o : Option Topic). o >>= λ k. fields (topic_kinds k) (query_with k) pieces) (ap topic_of e
    ∙ topic_again topic) ∙ fields_again (topic_kinds topic) (query_with topic) pieces values s

pub query_again : (pieces : List (List ℕ)) (x : Query) → SpellEach pieces (query_words x) → query_of pieces ≡ Some x
query_again pieces x s =
    let m = topic_values x in
    let words : query_words x ≡ text (topic_name m.key) ∷ words_of (topic_kinds m.key) m.values = ap query_words m.same
    ∙ topic_words m.key m.values in
    let t : SpellEach pieces (text (topic_name m.key) ∷ words_of (topic_kinds m.key) m.values) =
    subst (λ (ws : List Word). SpellEach pieces ws) words s in
    let parts = spell_parts pieces (text (topic_name m.key)) (words_of (topic_kinds m.key) m.values) t in
    ap query_of parts.first_is ∙ query_made parts.piece parts.rest m.key m.values parts.head parts.tail
    ∙ ap Some (sym m.same)

pub query_plain : (pieces : List (List ℕ)) (x : Query) → SpellEach pieces (query_words x)
    → AllByRecursion IsPlain pieces
query_plain pieces x s =
    let m = topic_values x in
    let words : query_words x ≡ text (topic_name m.key) ∷ words_of (topic_kinds m.key) m.values = ap query_words m.same
    ∙ topic_words m.key m.values in
    plain_each pieces (query_words x) (rw words (topic_plain m.key, plain_words_of (topic_kinds m.key) m.values)) s

-- ---- the request

otherwise : {A : Type 0} (b : Bool) (x y : A) → b ≡ false → cond b x y ≡ y
otherwise true x y e = absurd cc
otherwise false x y e = refl

no_query : (a : ℕ) → a < 2 ^ 64 → codes "?" ≡ decimal a → ⊥
no_query a lt e = let d : IsNumeral 10 (codes "?") = subst (λ (ds : List ℕ). IsNumeral 10 ds) (sym e)
    (decimal_is_IsNumeral a lt).0 in let far : digit_value 63 < 10 = d.1.0 in omega (arith, far)

pub queryless : (piece : List ℕ) (a : ℕ) → a < 2 ^ 32 → piece ≡ decimal a → bytes_eq piece (codes "?") ≡ false
queryless piece a small e = false_from_ne_true (bytes_eq piece (codes "?")) (λ t. no_query a (omega arith)
    (sym ((bytes_eq-Decides piece (codes "?")).0 t) ∙ e))

query_request : (pieces : List (List ℕ)) (r : Request) → (query_of pieces >>= λ q. Some (Ask q)) ≡ Some r
    → SpellEach (codes "?" ∷ pieces) (request_words r)
query_request pieces r e =
    let b = bind_some (query_of pieces) (λ q. Some (Ask q)) r e in
    subst (λ (x : Request). SpellEach (codes "?" ∷ pieces) (request_words x)) (same_Some (Ask b.0) r b.2) (
      refl,
      query_takes pieces b.0 b.1,
    )

command_request : (word : List ℕ) (pieces : List (List ℕ)) (r : Request)
    → (account_of word >>= λ client. first number_of pieces >>= λ number. call_of (others pieces) >>= λ call.
    Some (Do (record { client = client; number = number; call = call }))) ≡ Some r
    → SpellEach (word ∷ pieces) (request_words r)
unfolding first others
command_request word [] r e =
    let a = bind_some (account_of word) (λ client. None) r e in absurd (none-some r a.2)
command_request word (piece ∷ pieces) r e =
    let a = bind_some (account_of word) (λ client. number_of piece >>= λ number. call_of pieces >>= λ call.
    Some (Do (record { client = client; number = number; call = call }))) r e in
    let n = bind_some (number_of piece) (λ number. call_of pieces >>= λ call.
    Some (Do (record { client = a.0; number = number; call = call }))) r a.2 in
    let c = bind_some (call_of pieces) (λ call. Some (Do (record { client = a.0; number = n.0; call = call }))) r n.2 in
    let made_of : Request = Do (record { client = a.0; number = n.0; call = c.0 }) in
    subst (λ (x : Request). SpellEach (word ∷ piece ∷ pieces) (request_words x)) (same_Some made_of r c.2)
    (account_takes word a.0 a.1, (number_of-some piece n.0 n.1, call_takes pieces c.0 c.1))

pub request_takes : (pieces : List (List ℕ)) (r : Request) → request_of pieces ≡ Some r
    → SpellEach pieces (request_words r)
unfolding request_of first others
request_takes [] r e = absurd cc
request_takes (word ∷ pieces) r e =
    elim (either_some (bytes_eq word (codes "?")) _ _ r e) [
      | inl g ↦ subst (λ (w : List ℕ). SpellEach (w ∷ pieces) (request_words r))
          (sym ((bytes_eq-Decides word (codes "?")).0 g.0)) (query_request pieces r g.1)
      | inr g ↦ command_request word pieces r g.1
    ]

ask_again : (pieces : List (List ℕ)) (q : Query) → SpellEach pieces (request_words (Ask q))
    → request_of pieces ≡ Some (Ask q)
unfolding request_of first others
ask_again [] q s = absurd s
ask_again (word ∷ pieces) q s =
    yes (bytes_eq word (codes "?")) _ _ ((bytes_eq-Decides word (codes "?")).1 s.0)
    ∙ ap (λ (o : Option Query). o >>= λ query. Some (Ask query)) (query_again pieces q s.1)

abbrev command : ℕ → ℕ → Call → Request
command client n call = Do (record { client = client; number = n; call = call })

do_again : (pieces : List (List ℕ)) (c : Command) → SpellEach pieces (request_words (Do c))
    → request_of pieces ≡ Some (Do c)
unfolding request_of first others
do_again [] c s = absurd s
do_again (word ∷ []) c s = absurd s.1
do_again (word ∷ piece ∷ pieces) c s =
    otherwise (bytes_eq word (codes "?")) _ _ (queryless word c.client s.0.0 s.0.1)
    ∙ ap (λ (o : Option ℕ). o >>= λ client. number_of piece >>= λ number. call_of pieces >>= λ call.
    Some (command client number call)) (account_again word c.client s.0.0 s.0.1)
    ∙ ap (λ (o : Option ℕ). o >>= λ number. call_of pieces >>= λ call. Some (command c.client number call))
    (number_of-decimal piece c.number s.1.0.0 s.1.0.1)
    ∙ ap (λ (o : Option Call). o >>= λ call. Some (command c.client c.number call)) (call_again pieces c.call s.1.1)

pub request_again : (pieces : List (List ℕ)) (r : Request) → SpellEach pieces (request_words r)
    → request_of pieces ≡ Some r
request_again pieces (Do c) s = do_again pieces c s
request_again pieces (Ask q) s = ask_again pieces q s

-- ---- no word of a request holds a space

pub plain_request : (r : Request) (pieces : List (List ℕ)) → SpellEach pieces (request_words r)
    → AllByRecursion IsPlain pieces
plain_request (Ask q) [] s = absurd s
plain_request (Ask q) (word ∷ pieces) s = (ap plain s.0, query_plain pieces q s.1)
plain_request (Do c) [] s = absurd s
plain_request (Do c) (word ∷ []) s = absurd s.1
plain_request (Do c) (word ∷ piece ∷ pieces) s = (
  plain_spelled word (account c.client) tt s.0,
  (plain_spelled piece (number c.number) tt s.1.0, call_plain pieces c.call s.1.1),
)

pub nonempty_request : (r : Request) → SpellEach [] (request_words r) → ⊥
nonempty_request (Ask q) s = s
nonempty_request (Do c) s = s
