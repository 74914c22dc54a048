-- A legal history that goes on.
use Rattle.std.proofs.Common.{◌≡◌, ℕ, ◌+◌, Bool, true, false, cond, List, [], ◌∷◌, ◌++◌, refl, ap, sym, ◌∙◌, subst, arith, length, suc, append-nil}
use Rattle.std.specs.Prelude.{map, filter, ◌==◌}
use Rattle.std.proofs.lemmas.Bool.Decides.{nat_tests}
use Rattle.liq_types.specs.declared.replies.Reply.{Reply}
use Rattle.liq_types.specs.declared.requests.Request.{Request}
use Rattle.liq_types.specs.State.{State}
use Rattle.liq_rule_step.specs.History.{Entry, requests_of, replies_of, counted_from, own_entries, IsLegal, GoesOn, state_after}
use Rattle.liq_rule_step.specs.Step.{step, run}
use Rattle.liq_rule_step.proofs.Runs.{run_state, run_replies}

map-snoc : {X Y : Type 0} (f : X → Y) (xs : List X) (x : X) → map f (xs ++ x ∷ []) ≡ map f xs ++ f x ∷ []
map-snoc f [] x = refl
map-snoc {Y = Y} f (y ∷ xs) x = ap (λ (ys : List Y). f y ∷ ys) (map-snoc f xs x)

filter-snoc : {X : Type 0} (test : X → Bool) (xs : List X) (x : X) → filter test (xs ++ x ∷ []) ≡ filter test xs
    ++ cond (test x) (x ∷ []) []
filter-snoc test [] x = refl
filter-snoc {X} test (y ∷ xs) x = by (test y) (filter-snoc test xs x) where
  by : (b : Bool) → filter test (xs ++ x ∷ []) ≡ filter test xs ++ cond (test x) (x ∷ []) []
      → cond b (y ∷ filter test (xs ++ x ∷ [])) (filter test (xs ++ x ∷ []))
      ≡ cond b (y ∷ filter test xs) (filter test xs) ++ cond (test x) (x ∷ []) []
  by true h = ap (λ (ys : List X). y ∷ ys) h
  by false h = h

counted-snoc : (n : ℕ) (es : List Entry) (e : Entry) → counted_from n (es ++ e ∷ []) ≡ counted_from n es
    ++ (n + length es) ∷ []
counted-snoc n [] e = ap (λ m. m ∷ []) (none n) where
  none : (k : ℕ) → k ≡ k + 0
  none k = omega arith
counted-snoc n (x ∷ es) e = ap (λ (ns : List ℕ). n ∷ ns) (counted-snoc (n + 1) es e
    ∙ ap (λ m. counted_from (n + 1) es ++ m ∷ []) (shift n (length es))) where
      shift : (k m : ℕ) → k + 1 + m ≡ k + suc m
      shift k m = omega arith

pub state-snoc : (s : State) (entries : List Entry) (e : Entry) → state_after s (entries ++ e ∷ [])
    ≡ (step (state_after s entries) e.request).0
state-snoc s entries e =
    ap (λ (rs : List Request). (run s rs).0) (map-snoc (λ (x : Entry). x.request) entries e)
    ∙ run_state s (requests_of entries) (e.request ∷ [])

replies-snoc : (s : State) (entries : List Entry) (e : Entry) → IsLegal s entries → GoesOn s entries e
    → replies_of (entries ++ e ∷ []) ≡ (run s (requests_of (entries ++ e ∷ []))).1
replies-snoc s entries e h g =
    map-snoc (λ (x : Entry). x.reply) entries e
    ∙ ap (λ (rs : List Reply). rs ++ e.reply ∷ []) h.replies
    ∙ ap (λ (r : Reply). (run s (requests_of entries)).1 ++ r ∷ []) g.reply_is
    ∙ sym (run_replies s (requests_of entries) (e.request ∷ []))
    ∙ sym (ap (λ (rs : List Request). (run s rs).1) (map-snoc (λ (x : Entry). x.request) entries e))

abbrev indices_of : List Entry → List ℕ
indices_of entries = map (λ (e : Entry). e.index) entries

own-snoc : (session : ℕ) (entries : List Entry) (e : Entry) → indices_of (own_entries session entries)
    ≡ counted_from 1 (own_entries session entries) → e.index ≡ length (own_entries e.session entries) + 1 → (b : Bool)
    → (e.session == session) ≡ b → indices_of (own_entries session entries ++ cond b (e ∷ []) [])
    ≡ counted_from 1 (own_entries session entries ++ cond b (e ∷ []) [])
own-snoc session entries e h i true same =
    let own = own_entries session entries in
    let it : e.session ≡ session = grind (arith, nat_tests, same) in
    let place : e.index ≡ length own + 1 = subst (λ n. e.index ≡ length (own_entries n entries) + 1) it i in
    map-snoc (λ (x : Entry). x.index) own e
    ∙ ap (λ (ns : List ℕ). ns ++ e.index ∷ []) h
    ∙ ap (λ n. counted_from 1 own ++ n ∷ []) (place ∙ turned (length own))
    ∙ sym (counted-snoc 1 own e) where
      turned : (n : ℕ) → n + 1 ≡ 1 + n
      turned n = omega arith
own-snoc session entries e h i false same =
    ap indices_of (append-nil (own_entries session entries)) ∙ h
    ∙ sym (ap (counted_from 1) (append-nil (own_entries session entries)))

pub legal-snoc : (s : State) (entries : List Entry) (e : Entry) → IsLegal s entries → GoesOn s entries e
    → IsLegal s (entries ++ e ∷ [])
legal-snoc s entries e h g =
    record {
      replies = replies-snoc s entries e h g;
      indices = λ session.
          let split = filter-snoc (λ (x : Entry). x.session == session) entries e in
          subst (λ (own : List Entry). indices_of own ≡ counted_from 1 own) (sym split) (own-snoc session entries e
          (h.indices session) g.index_is (e.session == session) refl);
    }

pub legal-empty : (s : State) → IsLegal s []
legal-empty s = record { replies = refl; indices = λ session. refl }
