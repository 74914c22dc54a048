-- The table of finished sums: a sum is put at its end, and a search finds the one of a place.
use Rattle.std.proofs.Common.{◌≡◌, ℕ, zero, suc, ◌+◌, ◌<◌, ◌≤◌, Bool, true, false, cond, List, [], ◌∷◌, ◌++◌, length, get_or, refl, ap, sym, ◌∙◌, subst, arith, Some, None, Option, inl, inr}
use Rattle.std.specs.Prelude.{unwrap_or}
use Rattle.std.specs.BTreeMap.{insert_entry}
use Rattle.std.specs.Cmp.{IsTotalOrder, nat_cmp_is, nat_cmp_total, then_total, on_total}
use Rattle.std.specs.List.{AllByRecursion}
use Rattle.std.specs.List.Sorted.{IsStrictlySortedBy, IsNonDecreasingBy, IsPartitionPoint}
use Rattle.std.specs.Map.{keys_of, lookup}
use Rattle.std.specs.Ordering.{nat_cmp, match_ordering, ordering_then, ordering_index, ordering_reverse, is_eq, is_lt}
use Rattle.std.specs.declared.cmp.Ordering.{Ordering}
use Rattle.std.specs.declared.cmp.Ordering.TheVariants.{Less, Equal, Greater}
use Rattle.std.proofs.lemmas.Bool.{cases_lt}
use Rattle.std.proofs.lemmas.List.Sorted.{searchable_from_sorted}
use Rattle.liq_types.specs.Tables.{EpochScale}
use Rattle.liq_types.specs.Product.{place_order, is_place}
use Rattle.liq_types.specs.WellFormed.{IsBefore}
use Rattle.liq_types.proofs.Places.{IsUpTo, order-place, after_not_place, before_up_to, is_place-itself, is_place-turned, is_place-same}
use Rattle.liq_types.specs.declared.image.FinishedSum.{FinishedSum}
use Rattle.liq_stability.specs.Kept.{finished_rows}

abbrev pub Finished : Type 0
Finished = List (EpochScale × ℕ)

-- all of the table comes before a place
abbrev pub AreBefore : EpochScale → Finished → Type 0
AreBefore place table = AllByRecursion (λ (row : EpochScale × ℕ). IsBefore row.0 place) table

place_order_total : IsTotalOrder place_order
place_order_total = then_total (on_total (λ (p : EpochScale). p.0) nat_cmp_total)
    (on_total (λ (p : EpochScale). p.1) nat_cmp_total)

before_less : (a b : EpochScale) → IsBefore a b → place_order a b ≡ Less
before_less a b (inl first) = ap (λ o. ordering_then o (nat_cmp a.1 b.1)) (sym (nat_cmp_is a.0 b.0 Less first))
before_less a b (inr same) = ap (λ o. ordering_then o (nat_cmp a.1 b.1)) (sym (nat_cmp_is a.0 b.0 Equal same.0))
    ∙ sym (nat_cmp_is a.1 b.1 Less same.1)

before_greater : (a b : EpochScale) → IsBefore a b → place_order b a ≡ Greater
before_greater a b h = place_order_total.antisymm b a ∙ ap ordering_reverse (before_less a b h)

-- ---- a sum at the end

pub put_last : (table : Finished) (place : EpochScale) (sum : ℕ) → AreBefore place table
    → insert_entry place_order table place sum ≡ table ++ (place, sum) ∷ []
put_last [] place sum h = refl
put_last (e ∷ es) place sum h =
    ap (λ o. match_ordering o ((place, sum) ∷ e ∷ es) ((e.0, sum) ∷ es) (e ∷ insert_entry place_order es place sum))
    (before_greater e.0 place h.0)
    ∙ ap (λ (t : Finished). e ∷ t) (put_last es place sum h.1)

pub all_last : (P : EpochScale × ℕ → Type 0) (table : Finished) (row : EpochScale × ℕ) → AllByRecursion P table → P row
    → AllByRecursion P (table ++ row ∷ [])
all_last P [] row h p = (p, tt)
all_last P (e ∷ es) row h p = (h.0, all_last P es row h.1 p)

below_last : (a : EpochScale) (table : Finished) (place : EpochScale) (sum : ℕ)
    → AllByRecursion (λ q. place_order a q ≡ Less) (keys_of table) → place_order a place ≡ Less
    → AllByRecursion (λ q. place_order a q ≡ Less) (keys_of (table ++ (place, sum) ∷ []))
below_last a [] place sum h l = (l, tt)
below_last a (e ∷ es) place sum h l = (h.0, below_last a es place sum h.1 l)

pub sorted_last : (table : Finished) (place : EpochScale) (sum : ℕ) → AreBefore place table
    → IsStrictlySortedBy place_order (keys_of table)
    → IsStrictlySortedBy place_order (keys_of (table ++ (place, sum) ∷ []))
unfolding IsStrictlySortedBy
sorted_last [] place sum b h = (tt, tt)
sorted_last (e ∷ es) place sum b h = (
  below_last e.0 es place sum h.0 (before_less e.0 place b.0),
  sorted_last es place sum b.1 h.1,
)

-- ---- look-ups

abbrev pub sum_in : Finished → EpochScale → ℕ
sum_in table place = unwrap_or (lookup (is_place place) table) 0

-- no row stands at a place that all come before, or a later one
pub none_in : (table : Finished) (place q : EpochScale) → AreBefore place table → IsUpTo place q
    → lookup (is_place q) table ≡ None
none_in [] place q h up = refl
none_in (e ∷ es) place q h up =
    ap (λ b. cond b (Some e.1) (lookup (is_place q) es)) (after_not_place e.0 q (before_up_to e.0 place q h.0 up))
    ∙ none_in es place q h.1 up

-- another place's look-up does not see the last row
pub other_last : (table : Finished) (place q : EpochScale) (sum : ℕ) → is_place q place ≡ false
    → lookup (is_place q) (table ++ (place, sum) ∷ []) ≡ lookup (is_place q) table
other_last [] place q sum away = ap (λ b. cond b (Some sum) None) away
other_last (e ∷ es) place q sum away = ap (λ (o : Option ℕ). cond (is_place q e.0) (Some e.1) o)
    (other_last es place q sum away)

pub same_last : (table : Finished) (place : EpochScale) (sum : ℕ) → AreBefore place table
    → lookup (is_place place) (table ++ (place, sum) ∷ []) ≡ Some sum
same_last [] place sum h = ap (λ b. cond b (Some sum) None) (is_place-itself place)
same_last (e ∷ es) place sum h =
    ap (λ b. cond b (Some e.1) (lookup (is_place place) (es ++ (place, sum) ∷ []))) (after_not_place e.0 place h.0)
    ∙ same_last es place sum h.1

-- ---- a search

greater : (a b : EpochScale) → place_order a b ≡ Less → place_order b a ≡ Greater
greater a b h = place_order_total.antisymm b a ∙ ap ordering_reverse h

equal_place : (a b : EpochScale) → place_order a b ≡ Equal → is_place b a ≡ true
equal_place a b h = is_place-turned b a ∙ sym (order-place a b) ∙ ap is_eq h

less_place : (a b : EpochScale) → place_order a b ≡ Less → is_place b a ≡ false
less_place a b h = is_place-turned b a ∙ sym (order-place a b) ∙ ap is_eq h

abbrev pub key : FinishedSum → EpochScale
key f = (f.epoch, f.scale)

later_at : (P : EpochScale → Type 0) (items : List FinishedSum) (k : ℕ) (d : FinishedSum)
    → AllByRecursion P (keys_of (finished_rows items)) → k < length items → P (key (get_or items k d))
later_at P [] k d h less = absurd (omega (arith, less))
later_at P (e ∷ es) zero d h less = h.0
later_at P (e ∷ es) (suc k) d h less = later_at P es k d h.1 (omega (arith, less))

ascending_at : (items : List FinishedSum) (j k : ℕ) (d : FinishedSum)
    → IsStrictlySortedBy place_order (keys_of (finished_rows items)) → j < k → k < length items
    → place_order (key (get_or items j d)) (key (get_or items k d)) ≡ Less
unfolding IsStrictlySortedBy
ascending_at [] j k d h less short = absurd (omega (arith, short))
ascending_at (e ∷ es) j zero d h less short = absurd (omega (arith, less))
ascending_at (e ∷ es) zero (suc k) d h less short = later_at (λ q. place_order (key e) q ≡ Less) es k d h.0
    (omega (arith, short))
ascending_at (e ∷ es) (suc j) (suc k) d h less short = ascending_at es j k d h.1 (omega (arith, less))
    (omega (arith, short))

pub searchable : (items : List FinishedSum) (place : EpochScale)
    → IsStrictlySortedBy place_order (keys_of (finished_rows items))
    → IsNonDecreasingBy (λ f. ordering_index (place_order (key f) place)) items
searchable items place h =
    searchable_from_sorted place_order_total key items place
    (λ k d low short. ap is_lt (greater (key (get_or items k d)) (key (get_or items (k + 1) d)) (ascending_at items k
    (k + 1) d h (omega arith) short)))

pub found : (items : List FinishedSum) (at : ℕ) (d : FinishedSum) (place : EpochScale)
    → IsStrictlySortedBy place_order (keys_of (finished_rows items)) → at < length items
    → place_order (key (get_or items at d)) place ≡ Equal → sum_in (finished_rows items) place ≡ (get_or items at d).sum
unfolding IsStrictlySortedBy
found [] at d place h less same = absurd (omega (arith, less))
found (e ∷ es) zero d place h less same =
    ap (λ b. unwrap_or (cond b (Some e.sum) (lookup (is_place place) (finished_rows es))) 0)
    (equal_place (key e) place same)
found (e ∷ es) (suc k) d place h less same =
    let there : key (get_or es k d) ≡ place =
    sym (is_place-same place (key (get_or es k d)) (equal_place (key (get_or es k d)) place same)) in
    let first : place_order (key e) (key (get_or es k d)) ≡ Less = later_at (λ q. place_order (key e) q
    ≡ Less) es k d h.0 (omega (arith, less)) in
    let away : is_place place (key e) ≡ false = less_place (key e) place (subst (λ q. place_order (key e) q
    ≡ Less) there first) in
    ap (λ b. unwrap_or (cond b (Some e.sum) (lookup (is_place place) (finished_rows es))) 0) away
    ∙ found es k d place h.1 (omega (arith, less)) same

pub not_found : (items : List FinishedSum) (place : EpochScale) → ((k : ℕ) (d : FinishedSum) → k < length items
    → place_order (key (get_or items k d)) place ≡ Equal → ⊥) → sum_in (finished_rows items) place ≡ 0
not_found [] place h = refl
not_found (e ∷ es) place h =
    ap (λ b. unwrap_or (cond b (Some e.sum) (lookup (is_place place) (finished_rows es))) 0)
    (other (is_place place (key e)) refl)
    ∙ not_found es place (λ k d less. h (suc k) d (omega (arith, less)))
  where
    same_is_equal : (o : Ordering) → is_eq o ≡ true → o ≡ Equal
    same_is_equal Less k = cc
    same_is_equal Equal k = refl
    same_is_equal Greater k = cc

    other : (b : Bool) → is_place place (key e) ≡ b → is_place place (key e) ≡ false
    other true k = absurd (h 0 e (omega arith) (same_is_equal (place_order (key e) place) (order-place (key e) place
        ∙ is_place-turned (key e) place ∙ k)))
    other false k = k

-- where all before an index come before the place, and all from there on after it
abbrev pub IsParted : List FinishedSum → ℕ → EpochScale → Type 0
IsParted items at place = IsNonDecreasingBy (λ f. ordering_index (place_order (key f) place)) items
    → IsPartitionPoint (λ f. place_order (key f) place ≡ Less) (λ f. place_order (key f) place ≡ Greater) items at

pub not_parted : (items : List FinishedSum) (at : ℕ) (place : EpochScale)
    → IsStrictlySortedBy place_order (keys_of (finished_rows items)) → IsParted items at place
    → sum_in (finished_rows items) place ≡ 0
not_parted items at place sorted search =
    let parts = search (searchable items place sorted) in
    not_found items place (λ k d less same. elim (cases_lt k at) [
      | inl early ↦ clash (place_order (key (get_or items k d)) place) (parts.0 k d (omega arith) early) same
      | inr late ↦ clash-late (place_order (key (get_or items k d)) place) (parts.1 k d late less) same
    ]) where
      clash : (o : Ordering) → o ≡ Less → o ≡ Equal → ⊥
      clash o a b = cc

      clash-late : (o : Ordering) → o ≡ Greater → o ≡ Equal → ⊥
      clash-late o a b = cc

-- each finished sum is within what holds of all
pub sum_within : (most : ℕ) (items : List FinishedSum) (at : ℕ) (d : FinishedSum)
    → AllByRecursion (λ (row : EpochScale × ℕ). row.1 ≤ most) (finished_rows items) → at < length items
    → (get_or items at d).sum ≤ most
sum_within most [] at d h less = absurd (omega (arith, less))
sum_within most (e ∷ es) zero d h less = h.0
sum_within most (e ∷ es) (suc k) d h less = sum_within most es k d h.1 (omega (arith, less))
