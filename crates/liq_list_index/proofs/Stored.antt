-- Entries as they are stored stand for ranked ones: their order, and what is done to them.
use Rattle.std.proofs.Common.{◌≡◌, Bool, true, false, cond, List, [], ◌∷◌, ◌++◌, refl, sym, ap, ◌∙◌, arith, Some, None, Option, map, Bor}
use Rattle.std.proofs.lemmas.List.{map-append, reverse-append, length-reverse}
use Rattle.std.proofs.lemmas.List.Elements.{All-from_recursion, recursion_from_All}
use Rattle.std.proofs.lemmas.Map.Views.{All-insert_key, All-remove_key}
use Rattle.std.specs.Prelude.{not, ◌&&◌, ◌-◌, ◌<◌, reverse, filter, option_map, ◌↔◌, IsSome, IfSome, length, slice_get}
use Rattle.std.specs.BTreeMap.{is_at}
use Rattle.std.specs.BTreeSet.{insert_key}
use Rattle.std.specs.List.{AllByRecursion}
use Rattle.std.specs.List.Sorted.{IsStrictlySortedBy}
use Rattle.std.specs.Map.Iter.{TakesFirst, TakesLast, deref}
use Rattle.std.specs.Set.{remove_key}
use Rattle.std.specs.Ordering.{match_ordering, ordering_reverse, is_eq, is_lt, is_le}
use Rattle.std.specs.declared.cmp.Ordering.{Ordering}
use Rattle.std.specs.declared.cmp.Ordering.TheVariants.{Less, Equal, Greater}
use Rattle.liq_types.specs.Ranked.{Ranked, rank_order, IsAscending, first_of}
use Rattle.liq_types.proofs.RankedLists.{rank_total, Behind}
use Rattle.liq_list_chunks.specs.Entries.{with_entry, without_entry, entry_before, entry_after}
use Rattle.liq_list_chunks.proofs.Lists.{left_first}

-- an order of stored entries that is, for those that are fine, the one of what they stand for
module _ {E : Type 0} (order : E → E → Ordering) (ranked : E → Ranked) (Fine : E → Type 0)
    (same : (a b : E) → Fine a → Fine b → order a b ≡ rank_order (ranked a) (ranked b)) where
  behind_stored : (a : E) (es : List E) → Fine a → AllByRecursion Fine es
      → AllByRecursion (λ (b : E). order a b ≡ Less) es → Behind (ranked a) (map ranked es)
  behind_stored a [] fine h k = tt
  behind_stored a (b ∷ es) fine h k = (sym (same a b fine h.0) ∙ k.0, behind_stored a es fine h.1 k.1)

  pub stored_ascending : (es : List E) → AllByRecursion Fine es → IsStrictlySortedBy order es
      → IsAscending (map ranked es)
  unfolding IsStrictlySortedBy
  stored_ascending [] h k = tt
  stored_ascending (e ∷ es) h k = (behind_stored e es h.0 h.1 k.0, stored_ascending es h.1 k.1)

  -- ---- an entry comes in or leaves

  pub fine_inserted : (es : List E) (e : E) → AllByRecursion Fine es → Fine e
      → AllByRecursion Fine (insert_key order es e)
  fine_inserted es e h fine = recursion_from_All Fine (insert_key order es e) (All-insert_key order e Fine es
      (All-from_recursion Fine es h) fine)

  pub inserted_is : (es : List E) (e : E) → AllByRecursion Fine es → Fine e → map ranked (insert_key order es e)
      ≡ with_entry (map ranked es) (ranked e)
  inserted_is [] e h fine = refl
  inserted_is (f ∷ fs) e h fine =
      by (order e f) (inserted_is fs e h.1 fine)
      ∙ ap (λ o. match_ordering o (ranked e ∷ ranked f ∷ map ranked fs) (ranked f ∷ map ranked fs) (ranked f
      ∷ with_entry (map ranked fs) (ranked e))) (same e f fine h.0) where
        by : (o : Ordering) → map ranked (insert_key order fs e) ≡ with_entry (map ranked fs) (ranked e)
            → map ranked (match_ordering o (e ∷ f ∷ fs) (f ∷ fs) (f ∷ insert_key order fs e))
            ≡ match_ordering o (ranked e ∷ ranked f ∷ map ranked fs) (ranked f ∷ map ranked fs) (ranked f
            ∷ with_entry (map ranked fs) (ranked e))
        by Less more = refl
        by Equal more = refl
        by Greater more = ap (λ (l : List Ranked). ranked f ∷ l) more

  pub fine_removed : (es : List E) (test : E → Bool) → AllByRecursion Fine es → AllByRecursion Fine (remove_key test es)
  fine_removed es test h = recursion_from_All Fine (remove_key test es) (All-remove_key test Fine es
      (All-from_recursion Fine es h))

  pub removed_is : (es : List E) (e : E) → AllByRecursion Fine es → Fine e → IsAscending (map ranked es)
      → map ranked (remove_key (is_at (order e)) es) ≡ without_entry (map ranked es) (ranked e)
  removed_is [] e h fine k = refl
  removed_is (f ∷ fs) e h fine k = by (is_eq (order e f)) (ap is_eq (same e f fine h.0))
      (removed_is fs e h.1 fine k.1) where
        by : (b : Bool) → b ≡ is_eq (rank_order (ranked e) (ranked f)) → map ranked (remove_key (is_at (order e)) fs)
            ≡ without_entry (map ranked fs) (ranked e) → map ranked (cond b fs (f ∷ remove_key (is_at (order e)) fs))
            ≡ without_entry (ranked f ∷ map ranked fs) (ranked e)
        by true is more = sym (left_first (ranked f) (map ranked fs) (ranked e) k (sym is))
        by false is more =
            ap (λ (l : List Ranked). ranked f ∷ l) more
            ∙ ap (λ b. cond (not b) (ranked f ∷ without_entry (map ranked fs) (ranked e)) (without_entry (map ranked fs)
            (ranked e))) is

  -- ---- what a range shows first and last

  kept_is : (P : E → Bool) (Q : Ranked → Bool) (es : List E) → AllByRecursion Fine es
      → ((f : E) → Fine f → P f ≡ Q (ranked f)) → map ranked (filter P es) ≡ filter Q (map ranked es)
  kept_is P Q [] h agree = refl
  kept_is P Q (f ∷ fs) h agree =
      by (P f) (kept_is P Q fs h.1 agree)
      ∙ ap (λ b. cond b (ranked f ∷ filter Q (map ranked fs)) (filter Q (map ranked fs))) (agree f h.0) where
        by : (b : Bool) → map ranked (filter P fs) ≡ filter Q (map ranked fs)
            → map ranked (cond b (f ∷ filter P fs) (filter P fs)) ≡ cond b (ranked f ∷ filter Q (map ranked fs))
            (filter Q (map ranked fs))
        by true more = ap (λ (l : List Ranked). ranked f ∷ l) more
        by false more = more

  first_shown : (s t : List E) (r : Option (Bor E)) → TakesFirst deref s r t → option_map ranked (option_map deref r)
      ≡ first_of (map ranked s)
  first_shown s t None h = ap (λ (es : List E). first_of (map ranked es)) (sym h.0)
  first_shown s t (Some x) h = ap (λ (es : List E). first_of (map ranked es)) (sym h)

  last_shown : (s t : List E) (r : Option (Bor E)) → TakesLast deref s r t → option_map ranked (option_map deref r)
      ≡ first_of (reverse (map ranked s))
  last_shown s t None h = ap (λ (es : List E). first_of (reverse (map ranked es))) (sym h.0)
  last_shown s t (Some x) h =
      sym (
      ap (λ (es : List E). first_of (reverse (map ranked es))) h
      ∙ ap (λ (l : List Ranked). first_of (reverse l)) (map-append ranked t (deref x ∷ []))
      ∙ ap (λ (l : List Ranked). first_of l) (reverse-append (map ranked t) (ranked (deref x) ∷ []))
      )

  pub after_is : (es s t : List E) (e : E) (r : Option (Bor E)) → AllByRecursion Fine es → Fine e
      → s ≡ filter (λ (f : E). is_lt (order e f) && true) es → TakesFirst deref s r t
      → option_map ranked (option_map deref r) ≡ entry_after (map ranked es) (ranked e)
  after_is es s t e r h fine part step =
      first_shown s t r step
      ∙ ap (λ (l : List E). first_of (map ranked l)) part
      ∙ ap (λ (l : List Ranked). first_of l) (kept_is (λ f. is_lt (order e f) && true)
      (λ f. is_lt (rank_order (ranked e) f)) es h (λ f its. and_true (is_lt (order e f))
      ∙ ap is_lt (same e f fine its))) where
        and_true : (b : Bool) → (b && true) ≡ b
        and_true true = refl
        and_true false = refl

  pub before_is : (es s t : List E) (e : E) (r : Option (Bor E)) → AllByRecursion Fine es → Fine e
      → s ≡ filter (λ (f : E). not (is_le (order e f))) es → TakesLast deref s r t
      → option_map ranked (option_map deref r) ≡ entry_before (map ranked es) (ranked e)
  before_is es s t e r h fine part step =
      last_shown s t r step
      ∙ ap (λ (l : List E). first_of (reverse (map ranked l))) part
      ∙ ap (λ (l : List Ranked). first_of (reverse l)) (kept_is (λ f. not (is_le (order e f)))
      (λ f. is_lt (rank_order f (ranked e))) es h (λ f its. ap (λ o. not (is_le o)) (same e f fine its)
      ∙ turn (rank_order (ranked e) (ranked f)) ∙ ap is_lt (sym (rank_total.antisymm (ranked f) (ranked e))))) where
        turn : (o : Ordering) → not (is_le o) ≡ is_lt (ordering_reverse o)
        turn Less = refl
        turn Equal = refl
        turn Greater = refl

  -- ---- the first and the last of all

  pub first_is : (es : List E) (r : Option (Bor E)) → (IsSome r ↔ (0 < length es))
      → IfSome r (λ x. slice_get es 0 ≡ Some (deref x)) → option_map ranked (option_map deref r)
      ≡ first_of (map ranked es)
  first_is [] None v h = refl
  first_is [] (Some x) v h = cc
  first_is (e ∷ es) None v h = let clash : IsSome {T = Bor E} None = v.1 (omega arith) in cc
  first_is (e ∷ es) (Some x) v h = ap (λ (o : Option E). option_map ranked o) (sym h)

  last_at : (e : E) (es : List E) → option_map ranked (slice_get (e ∷ es) (length es))
      ≡ first_of (reverse (map ranked (e ∷ es)))
  last_at e [] = refl
  last_at e (f ∷ fs) =
      last_at f fs
      ∙ sym (ap (λ (l : List Ranked). first_of l) (reverse-append (ranked e ∷ []) (map ranked (f ∷ fs)))
      ∙ more (reverse (map ranked (f ∷ fs))) (some fs)) where
        more : (l : List Ranked) → 0 < length l → first_of (l ++ ranked e ∷ []) ≡ first_of l
        more [] h = absurd (omega (arith, h))
        more (g ∷ gs) h = refl

        some : (gs : List E) → 0 < length (reverse (map ranked (f ∷ gs)))
        some gs = omega (arith, length-reverse (map ranked (f ∷ gs)))

  pub last_is : (es : List E) (r : Option (Bor E)) → (IsSome r ↔ (0 < length es))
      → IfSome r (λ x. slice_get es (length es - 1) ≡ Some (deref x)) → option_map ranked (option_map deref r)
      ≡ first_of (reverse (map ranked es))
  last_is [] None v h = refl
  last_is [] (Some x) v h = cc
  last_is (e ∷ es) None v h = let clash : IsSome {T = Bor E} None = v.1 (omega arith) in cc
  last_is (e ∷ es) (Some x) v h =
      let one_less : length (e ∷ es) - 1 ≡ length es = omega arith in
      ap (λ (o : Option E). option_map ranked o) (sym h)
      ∙ ap (λ n. option_map ranked (slice_get (e ∷ es) n)) one_less
      ∙ last_at e es
