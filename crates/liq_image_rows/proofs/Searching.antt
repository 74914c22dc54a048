-- Rows whose keys ascend: a search by halves finds at a key what a look-up does.
use Rattle.std.proofs.Common.{◌≡◌, ℕ, zero, suc, ◌+◌, ◌<◌, Bool, false, cond, List, [], ◌∷◌, length, get_or, map, refl, ap, sym, ◌∙◌, arith, Some, None, inl, inr}
use Rattle.std.specs.Cmp.{IsTotalOrder}
use Rattle.std.specs.List.{AllByRecursion}
use Rattle.std.specs.List.Sorted.{IsStrictlySortedBy, IsNonDecreasingBy, IsPartitionPoint}
use Rattle.std.specs.Map.{keys_of, lookup}
use Rattle.std.specs.Ordering.{ordering_index, ordering_reverse, is_eq, is_lt}
use Rattle.std.specs.declared.cmp.Ordering.{Ordering}
use Rattle.std.specs.declared.cmp.Ordering.TheVariants.{Less, Equal, Greater}
use Rattle.std.proofs.lemmas.Bool.{cases_lt}
use Rattle.std.proofs.lemmas.List.Sorted.{searchable_from_sorted}

module _ {K X V : Type 0} {R : K → K → Ordering} (o : IsTotalOrder R) (key : X → K) (value : X → V) where
  abbrev entry : X → K × V
  entry x = (key x, value x)

  abbrev pub Ascend : List X → Type 0
  Ascend rows = IsStrictlySortedBy R (keys_of (map entry rows))

  -- ---- each row beside the next, and beside all later ones

  -- what comes before a key comes before all that the key does
  after : (a b : X) → R (key a) (key b) ≡ Less → (rows : List X)
      → AllByRecursion (λ y. R (key b) y ≡ Less) (keys_of (map entry rows))
      → AllByRecursion (λ y. R (key a) y ≡ Less) (keys_of (map entry rows))
  after a b first [] h = tt
  after a b first (y ∷ ys) h = (o.trans (key a) (key b) (key y) first h.0, after a b first ys h.1)

  pub ascend : (d : X) (rows : List X) → ((k j : ℕ) → j ≡ k + 1 → j < length rows
      → R (key (get_or rows k d)) (key (get_or rows j d)) ≡ Less) → Ascend rows
  unfolding IsStrictlySortedBy
  ascend d [] next = tt
  ascend d (a ∷ []) next = (tt, tt)
  ascend d (a ∷ b ∷ rows) next =
      let first : R (key a) (key b) ≡ Less = next 0 1 refl (omega arith) in
      let later = ascend d (b ∷ rows) (λ k j same less. next (suc k) (suc j) (omega (arith, same)) (omega (
        arith,
        less,
      ))) in
      ((first, after a b first rows later.0), later)

  all_at : (P : K → Type 0) (rows : List X) (k : ℕ) (d : X) → AllByRecursion P (keys_of (map entry rows))
      → k < length rows → P (key (get_or rows k d))
  all_at P [] k d h less = absurd (omega (arith, less))
  all_at P (e ∷ es) zero d h less = h.0
  all_at P (e ∷ es) (suc k) d h less = all_at P es k d h.1 (omega (arith, less))

  pub ascending_at : (rows : List X) (j k : ℕ) (d : X) → Ascend rows → j < k → k < length rows
      → R (key (get_or rows j d)) (key (get_or rows k d)) ≡ Less
  unfolding IsStrictlySortedBy
  ascending_at [] j k d h less short = absurd (omega (arith, short))
  ascending_at (e ∷ es) j zero d h less short = absurd (omega (arith, less))
  ascending_at (e ∷ es) zero (suc k) d h less short = all_at (λ q. R (key e) q ≡ Less) es k d h.0 (omega (arith, short))
  ascending_at (e ∷ es) (suc j) (suc k) d h less short = ascending_at es j k d h.1 (omega (arith, less))
      (omega (arith, short))

  -- ---- a test of keys that passes the ones tied with a key

  module _ (k : K) (test : K → Bool) (same : (q : K) → test q ≡ is_eq (R k q)) where
    turned : (q : K) → test q ≡ is_eq (ordering_reverse (R q k))
    turned q = same q ∙ ap is_eq (o.antisymm k q)

    pub found : (rows : List X) (at : ℕ) (d : X) → Ascend rows → at < length rows → R (key (get_or rows at d)) k ≡ Equal
        → lookup test (map entry rows) ≡ Some (value (get_or rows at d))
    unfolding IsStrictlySortedBy
    found [] at d h less tied = absurd (omega (arith, less))
    found (e ∷ es) zero d h less tied =
        ap (λ b. cond b (Some (value e)) (lookup test (map entry es))) (turned (key e)
        ∙ ap (λ r. is_eq (ordering_reverse r)) tied)
    found (e ∷ es) (suc at) d h less tied =
        let before : R (key e) (key (get_or es at d)) ≡ Less = all_at (λ q. R (key e) q ≡ Less) es at d h.0
        (omega (arith, less)) in
        let away : test (key e) ≡ false =
        same (key e) ∙ ap is_eq (sym (o.congr (key (get_or es at d)) k (key e) tied)
        ∙ o.antisymm (key (get_or es at d)) (key e)) ∙ ap (λ r. is_eq (ordering_reverse r)) before in
        ap (λ b. cond b (Some (value e)) (lookup test (map entry es))) away
        ∙ found es at d h.1 (omega (arith, less)) tied

    none : (rows : List X) → ((j : ℕ) (d : X) → j < length rows → is_eq (ordering_reverse (R (key (get_or rows j d)) k))
        ≡ false) → lookup test (map entry rows) ≡ None
    none [] away = refl
    none (e ∷ es) away =
        ap (λ b. cond b (Some (value e)) (lookup test (map entry es))) (turned (key e) ∙ away 0 e (omega arith))
        ∙ none es (λ j d less. away (suc j) d (omega (arith, less)))

    -- where all rows before an index come before the key, and all from there on after it
    abbrev pub IsParted : List X → ℕ → Type 0
    IsParted rows at =
        IsNonDecreasingBy (λ x. ordering_index (R (key x) k)) rows
        → IsPartitionPoint (λ x. R (key x) k ≡ Less) (λ x. R (key x) k ≡ Greater) rows at

    pub not_found : (rows : List X) (at : ℕ) → Ascend rows → IsParted rows at → lookup test (map entry rows) ≡ None
    not_found rows at h parted =
        let parts = parted (searchable_from_sorted o key rows k (λ j d low short. ap is_lt (o.antisymm _ _
        ∙ ap ordering_reverse (ascending_at rows j (j + 1) d h (omega arith) short)))) in
        none rows (λ j d less. elim (cases_lt j at) [
          | inl early ↦ ap (λ r. is_eq (ordering_reverse r)) (parts.0 j d (omega arith) early)
          | inr late ↦ ap (λ r. is_eq (ordering_reverse r)) (parts.1 j d late less)
        ])
