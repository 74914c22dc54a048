-- An entry that was put into a list: it is found, the list without it is the one before, and what it took.
use Rattle.std.proofs.Common.{◌≡◌, ℕ, ℤ, ◌+◌, ◌≤◌, Bool, true, false, cond, List, [], ◌∷◌, length, refl, sym, ap, ◌∙◌, subst, Some, None, Option, arith}
use Rattle.std.specs.Prelude.{◌==◌, filter, find, option_map}
use Rattle.std.specs.Ordering.{match_ordering}
use Rattle.std.specs.declared.cmp.Ordering.{Ordering}
use Rattle.std.specs.declared.cmp.Ordering.TheVariants.{Less, Equal, Greater}
use Rattle.std.proofs.lemmas.Bool.{eq-eqb, ne_eqb}
use Rattle.liq_types.specs.declared.hints.Hint.{Hint}
use Rattle.liq_types.specs.Ranked.{Ranked, IsTight, key_in, with_ranked, without_ranked, rank_order}
use Rattle.liq_order.specs.Listed.{IsAbsent}
use Rattle.liq_order.proofs.Found.{absent_from_key, without_absent}
use Rattle.liq_order.proofs.Ranking.{filter_here}
use Rattle.liq_trove_moves.specs.Steps.{entry_in, TakesFew}

-- ---- its key

abbrev key_or : Ranked → ℕ → Bool → List Ranked → Option ℤ
key_or e account b es = option_map (λ (f : Ranked). f.0) (cond b (Some e) (find (λ (f : Ranked). f.1 == account) es))

pub key_with_own : (list : List Ranked) (e : Ranked) → IsAbsent e.1 list → key_in (with_ranked list e) e.1 ≡ Some e.0
key_with_own list e n = here list n where
  own : (more : List Ranked) → key_in (e ∷ more) e.1 ≡ Some e.0
  own more = ap (λ b. key_or e e.1 b more) (eq-eqb e.1 e.1 refl)

  here : (l : List Ranked) → IsAbsent e.1 l → key_in (with_ranked l e) e.1 ≡ Some e.0
  here [] h = own []
  here (f ∷ fs) h = by (rank_order e f) (here fs h.1) where
    by : (o : Ordering) → key_in (with_ranked fs e) e.1 ≡ Some e.0
        → key_in (match_ordering o (e ∷ f ∷ fs) (e ∷ f ∷ fs) (f ∷ with_ranked fs e)) e.1 ≡ Some e.0
    by Less more = own (f ∷ fs)
    by Equal more = own (f ∷ fs)
    by Greater more = ap (λ b. key_or f e.1 b (with_ranked fs e)) (ne_eqb f.1 e.1 h.0) ∙ more

-- ---- the list without it

pub without_own : (list : List Ranked) (e : Ranked) → IsAbsent e.1 list → without_ranked (with_ranked list e) e.1 ≡ list
without_own list e n = filter_here list e ∙ without_absent list e.1 n

-- ---- what it took

pub few_put : (list next : List Ranked) (key : ℤ) (account : ℕ) (hint : Hint) (old new : ℕ) → key_in list account ≡ None
    → next ≡ with_ranked list (key, account) → (IsTight list (key, account) hint.prev hint.next → new ≤ old + 4)
    → TakesFew next hint (entry_in next account) old new
few_put list next key account hint old new unlisted is few =
    let e : Ranked = (key, account) in
    let absent = absent_from_key list account unlisted in
    let found = ap (λ (l : List Ranked). entry_in l account) is
    ∙ ap (option_map (λ (k : ℤ). (k, account))) (key_with_own list e absent) in
    let back = ap (λ (l : List Ranked). without_ranked l account) is ∙ without_own list e absent in
    subst (λ (o : Option Ranked). TakesFew next hint o old new) (sym found)
    (λ tight. few (subst (λ (l : List Ranked). IsTight l e hint.prev hint.next) back tight))

-- ---- lengths

pub filter_within : {X : Type 0} → (p : X → Bool) (xs : List X) → length (filter p xs) ≤ length xs
filter_within p [] = omega arith
filter_within p (x ∷ xs) = by (p x) (filter_within p xs) where
  by : (b : Bool) → length (filter p xs) ≤ length xs → length (cond b (x ∷ filter p xs) (filter p xs)) ≤ length (x ∷ xs)
  by true h = omega (arith, h)
  by false h = omega (arith, h)
