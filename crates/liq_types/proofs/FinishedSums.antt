-- The finished sums stay in the order of their places, none is 0, and all their places have been left.
use Rattle.std.proofs.Common.{◌≡◌, ℕ, ◌≤◌, Bool, true, false, cond, List, [], ◌∷◌, refl}
use Rattle.std.specs.Prelude.{fold, ◌==◌}
use Rattle.std.specs.BTreeMap.{insert_entry}
use Rattle.std.specs.Cmp.{IsTotalOrder, nat_cmp_total, then_total, on_total}
use Rattle.std.specs.List.{AllByRecursion}
use Rattle.std.specs.List.Sorted.{IsStrictlySortedBy}
use Rattle.std.specs.Map.{keys_of, values_of}
use Rattle.std.specs.Ordering.{match_ordering}
use Rattle.std.specs.declared.cmp.Ordering.{Ordering}
use Rattle.std.specs.declared.cmp.Ordering.TheVariants.{Less, Equal, Greater}
use Rattle.liq_types.specs.Image.{Image, EpochScale}
use Rattle.liq_types.specs.Product.{place_of, place_order, prod, start_words, sumat, places_left, with_finished, finished_sums}
use Rattle.liq_types.specs.State.{PoolOffset}
use Rattle.liq_types.specs.WellFormed.{IsBefore, AreFinished}
use Rattle.liq_types.proofs.Ascending.{insert-ascends}
use Rattle.liq_types.proofs.Places.{before_up_to, list_reaches, left_before}
use Rattle.liq_types.proofs.Tests.{not_zero}

place_order_total : IsTotalOrder place_order
place_order_total = then_total (on_total (λ (p : EpochScale). p.0) nat_cmp_total)
    (on_total (λ (p : EpochScale). p.1) nat_cmp_total)

abbrev Finished : Type 0
Finished = List (EpochScale × ℕ)

with-ascends : (table : Finished) (place : EpochScale) (sum : ℕ) → IsStrictlySortedBy place_order (keys_of table)
    → IsStrictlySortedBy place_order (keys_of (with_finished table place sum))
with-ascends table place sum h = by (sum == 0) where
  by : (b : Bool) → IsStrictlySortedBy place_order (keys_of (cond b table (insert_entry place_order table place sum)))
  by true = h
  by false = insert-ascends place_order_total table place sum h

finish-ascends : (v : EpochScale → ℕ) (table : Finished) (places : List EpochScale)
    → IsStrictlySortedBy place_order (keys_of table)
    → IsStrictlySortedBy place_order (keys_of (fold (λ t p. with_finished t p (v p)) table places))
finish-ascends v table [] h = h
finish-ascends v table (p ∷ ps) h = finish-ascends v (with_finished table p (v p)) ps (with-ascends table p (v p) h)

pub finished-ascend : (i : Image) (os : List PoolOffset) → IsStrictlySortedBy place_order (keys_of i.finished)
    → IsStrictlySortedBy place_order (keys_of (finished_sums i os))
finished-ascend i os h = finish-ascends (sumat i os) i.finished (places_left (start_words i) os) h

-- ---- rows that are written

module _ (P : EpochScale → ℕ → Type 0) where
  abbrev Rows : Finished → Type 0
  Rows table = AllByRecursion (λ (row : EpochScale × ℕ). P row.0 row.1) table

  -- a row keeps the place that it is found at
  rows-insert : ((a b : EpochScale) (n m : ℕ) → place_order a b ≡ Equal → P a n → P b m → P b n)
      → (table : Finished) (place : EpochScale) (sum : ℕ) → P place sum → Rows table
      → Rows (insert_entry place_order table place sum)
  rows-insert keep [] place sum p h = (p, tt)
  rows-insert keep (e ∷ es) place sum p h = by (place_order place e.0) refl (rows-insert keep es place sum p h.1) where
    by : (o : Ordering) → place_order place e.0 ≡ o → Rows (insert_entry place_order es place sum)
        → Rows (match_ordering o ((place, sum) ∷ e ∷ es) ((e.0, sum) ∷ es) (e ∷ insert_entry place_order es place sum))
    by Less is more = (p, h)
    by Equal is more = (keep place e.0 sum e.1 is p h.0, h.1)
    by Greater is more = (h.0, more)

  rows-finish : ((a b : EpochScale) (n m : ℕ) → place_order a b ≡ Equal → P a n → P b m → P b n) → (v : EpochScale → ℕ)
      (Q : EpochScale → Type 0) → ((p : EpochScale) → Q p → (v p == 0) ≡ false → P p (v p)) → (table : Finished)
      (places : List EpochScale)
      → AllByRecursion Q places → Rows table → Rows (fold (λ t p. with_finished t p (v p)) table places)
  rows-finish keep v Q made table [] q h = h
  rows-finish keep v Q made table (p ∷ ps) q h = rows-finish keep v Q made (with_finished table p (v p)) ps q.1
      (by (v p == 0) refl) where
        by : (b : Bool) → (v p == 0) ≡ b → Rows (cond b table (insert_entry place_order table p (v p)))
        by true e = h
        by false e = rows-insert keep table p (v p) (made p q.0 e) h

pub finished-before : (i : Image) (os : List PoolOffset) → AreFinished i
    → AllByRecursion (λ (row : EpochScale × ℕ). IsBefore row.0 (place_of (prod i os))) (finished_sums i os)
finished-before i os f =
    rows-finish (λ place sum. IsBefore place (place_of (prod i os))) (λ a b n m e p q. q) (sumat i os)
    (λ p. IsBefore p (place_of (prod i os))) (λ p q e. q) i.finished (places_left (start_words i) os)
    (left_before (start_words i) os) (first i.finished f) where
      first : (table : Finished) → AllByRecursion (λ (row : EpochScale × ℕ). IsBefore row.0 (i.epoch, i.scale)) table
          → AllByRecursion (λ (row : EpochScale × ℕ). IsBefore row.0 (place_of (prod i os))) table
      first [] h = tt
      first (e ∷ es) h = (
        before_up_to e.0 (i.epoch, i.scale) (place_of (prod i os)) h.0
            (list_reaches (start_words i) os),
        first es h.1,
      )

all_places : (ps : List EpochScale) → AllByRecursion (λ (p : EpochScale). Unit {0}) ps
all_places [] = tt
all_places (p ∷ ps) = (tt, all_places ps)

of_values : (table : Finished) → AllByRecursion (λ sum. 1 ≤ sum) (values_of table)
    → AllByRecursion (λ (row : EpochScale × ℕ). 1 ≤ row.1) table
of_values [] h = tt
of_values (e ∷ es) h = (h.0, of_values es h.1)

to_values : (table : Finished) → AllByRecursion (λ (row : EpochScale × ℕ). 1 ≤ row.1) table
    → AllByRecursion (λ sum. 1 ≤ sum) (values_of table)
to_values [] h = tt
to_values (e ∷ es) h = (h.0, to_values es h.1)

pub finished-some : (i : Image) (os : List PoolOffset) → AllByRecursion (λ sum. 1 ≤ sum) (values_of i.finished)
    → AllByRecursion (λ sum. 1 ≤ sum) (values_of (finished_sums i os))
finished-some i os h =
    to_values (finished_sums i os)
    (rows-finish (λ place sum. 1 ≤ sum) (λ a b n m e p q. p) (sumat i os) (λ p. Unit {0})
    (λ p q e. not_zero (sumat i os p) e) i.finished (places_left (start_words i) os)
    (all_places (places_left (start_words i) os)) (of_values i.finished h))
