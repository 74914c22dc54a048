-- What stands of the Stability Pool in every sound state, and that own operations and offsets keep it.
use Rattle.std.proofs.Common.{◌≡◌, ℕ, ◌+◌, ◌*◌, ◌^◌, ◌≤◌, Bool, true, false, cond, List, [], ◌∷◌, ◌++◌, refl, ap, sym, ◌∙◌, subst, inl, inr, arith, length}
use Rattle.std.specs.Prelude.{◌==◌, unwrap_or}
use Rattle.std.specs.BTreeMap.{insert_entry}
use Rattle.std.specs.Cmp.{nat_cmp_is}
use Rattle.std.specs.List.{AllByRecursion}
use Rattle.std.specs.List.Sorted.{IsStrictlySortedBy}
use Rattle.std.specs.Map.{keys_of, lookup}
use Rattle.std.specs.Ordering.{nat_cmp, match_ordering, ordering_then}
use Rattle.std.specs.declared.cmp.Ordering.TheVariants.{Equal, Greater}
use Rattle.std.proofs.lemmas.Bool.Decides.{nat_tests}
use Rattle.liq_types.specs.declared.amounts.TheConstants.{P_OPENING, P_LEAST, OFFSET_MOST, RISES_MOST}
use Rattle.liq_types.specs.declared.figures.Deposit.{Deposit}
use Rattle.liq_types.specs.declared.image.Image.{Image}
use Rattle.liq_types.specs.Image.{opening_image}
use Rattle.liq_types.specs.Product.{ScaledProduct, IsWithinRange, TakesPartUpTo, after_offset, place_of, is_place, place_order, sum_growth, start_sum, start_words, sumat}
use Rattle.liq_types.specs.State.{State, PoolOffset, PoolMark, After, DepositEntry}
use Rattle.liq_types.specs.Tables.{EpochScale, Table, put, without, map_rows}
use Rattle.liq_types.specs.Totals.{pool_total}
use Rattle.liq_types.specs.WellFormed.{IsBefore, IsWellFormed, Ascends}
use Rattle.liq_types.proofs.Ascending.{none-ascends}
use Rattle.liq_types.proofs.FinishedSums.{finished-ascend}
use Rattle.liq_types.proofs.MapRows.{all-put, all-without, all-weaken, map-put, map-without}
use Rattle.liq_types.proofs.Places.{IsUpTo, up_to_trans, before_up_to, up_to_other, is_place-same, is_place-itself, list_reaches, rises-snoc, sum_shown, sum_after, finished_after, finished-snoc}
use Rattle.liq_types.proofs.Ranges.{offset_within, rise_few}
use Rattle.liq_types.proofs.Sums.{leaves_part, takes_all, stays_within, finishes_within}
use Rattle.liq_stability.specs.Own.{owned, offset, amount_after}
use Rattle.liq_stability.specs.Position.{words_of, deposit_row}
use Rattle.liq_stability.proofs.Pool.{mark-full, offset_now, words-snoc}
use Rattle.liq_rule_step.specs.Image.{image}
use Rattle.liq_rule_step.proofs.Alike.{offset-image, offset_by, words_by}
use Rattle.liq_types.proofs.Tests.{not_zero}

-- the words, the finished sums and the deposits
pub record PoolPart : Type 0 where
  pub p : ℕ
  pub scale : ℕ
  pub epoch : ℕ
  pub sum : ℕ
  pub finished : List (EpochScale × ℕ)
  pub deposits : Table Deposit

abbrev pub part_of : Image → PoolPart
part_of i = record {
  p = i.p;
  scale = i.scale;
  epoch = i.epoch;
  sum = i.sum;
  finished = i.finished;
  deposits = i.deposits;
}

-- the sum of a place, by the place of now, its sum and the finished ones
abbrev pub sum_in : EpochScale → ℕ → List (EpochScale × ℕ) → EpochScale → ℕ
sum_in now sum finished place = cond (is_place now place) sum (unwrap_or (lookup (is_place place) finished) 0)

pub record FinishedStands (now : EpochScale) (row : EpochScale × ℕ) : Type 0 where
  pub some : 1 ≤ row.1
  pub most : row.1 ≤ OFFSET_MOST * P_OPENING
  pub before : IsBefore row.0 now

pub record DepositStands (most : ℕ) (now : EpochScale) (sum : ℕ) (finished : List (EpochScale × ℕ))
    (d : Deposit) : Type 0 where
  pub some : 1 ≤ d.amount
  pub amount : d.amount ≤ most
  pub least_p : P_LEAST ≤ d.p
  pub most_p : d.p ≤ P_OPENING
  pub place : IsUpTo (d.epoch, d.scale) now
  pub within : d.sum ≤ sum_in now sum finished (d.epoch, d.scale)

pub record PoolStands (most : ℕ) (w : PoolPart) : Type 0 where
  pub least : P_LEAST ≤ w.p
  pub highest : w.p ≤ P_OPENING
  pub sum : w.sum + OFFSET_MOST * w.p ≤ OFFSET_MOST * P_OPENING
  pub finished : AllByRecursion (FinishedStands (w.epoch, w.scale)) w.finished
  pub ordered : IsStrictlySortedBy place_order (keys_of w.finished)
  pub ascend : Ascends w.deposits
  pub deposits : AllByRecursion (λ (row : ℕ × Deposit). DepositStands most (w.epoch, w.scale) w.sum w.finished row.1)
      w.deposits

-- ---- an own operation

-- the part after an own operation that leaves this amount
abbrev own_part : PoolPart → ℕ → ℕ → PoolPart
own_part w account left =
    record w {
      deposits = cond (left == 0) (without w.deposits account) (put w.deposits account (record {
        amount = left;
        p = w.p;
        sum = w.sum;
        scale = w.scale;
        epoch = w.epoch;
      }));
    }

own_part_stands : (most : ℕ) (w : PoolPart) (account left : ℕ) → left ≤ most → PoolStands most w
    → PoolStands most (own_part w account left)
own_part_stands most w account left fits h =
    record {
      least = h.least;
      highest = h.highest;
      sum = h.sum;
      finished = h.finished;
      ordered = h.ordered;
      ascend = none-ascends (left == 0) w.deposits account (record {
        amount = left;
        p = w.p;
        sum = w.sum;
        scale = w.scale;
        epoch = w.epoch;
      }) h.ascend;
      deposits = rows (left == 0) refl;
    }
  where
    some_left : (left == 0) ≡ false → 1 ≤ left
    some_left e = grind (arith, nat_tests, e)

    rows : (b : Bool) → (left == 0) ≡ b → AllByRecursion (λ (row : ℕ × Deposit). DepositStands most (
      w.epoch,
      w.scale,
    ) w.sum w.finished row.1) (cond b (without w.deposits account) (put w.deposits account
        (record { amount = left; p = w.p; sum = w.sum; scale = w.scale; epoch = w.epoch })))
    rows true e = all-without (DepositStands most (w.epoch, w.scale) w.sum w.finished) w.deposits account h.deposits
    rows false e =
        let counted : w.sum ≤ sum_in (w.epoch, w.scale) w.sum w.finished (w.epoch, w.scale) =
        subst (λ b. w.sum ≤ cond b w.sum (unwrap_or (lookup (is_place (w.epoch, w.scale)) w.finished) 0))
        (sym (is_place-itself (w.epoch, w.scale))) (omega arith) in
        let stands : DepositStands most (w.epoch, w.scale) w.sum w.finished (record {
          amount = left;
          p = w.p;
          sum = w.sum;
          scale = w.scale;
          epoch = w.epoch;
        }) =
        record {
          some = some_left e;
          amount = fits;
          least_p = h.least;
          most_p = h.highest;
          place = inr (refl, omega arith);
          within = counted;
        } in
        all-put (DepositStands most (w.epoch, w.scale) w.sum w.finished) w.deposits account _ stands h.deposits

owned_part : (s : State) (account put_in out : ℕ) → part_of (image (owned s account put_in out))
    ≡ own_part (part_of (image s)) account (amount_after s account put_in out)
owned_part s account put_in out =
    let left = amount_after s account put_in out in
    let w = part_of (image s) in
    ap (λ (rows : Table Deposit). record w { deposits = rows }) (mapped (left == 0))
    ∙ ap (λ (m : PoolMark). record w {
      deposits = cond (left == 0) (without w.deposits account) (put w.deposits account
          (record { amount = left; p = m.p; sum = m.sum; scale = m.scale; epoch = m.epoch }));
    }) (mark-full s)
  where
    entry : DepositEntry
    entry = record { amount = amount_after s account put_in out; mark = After (length s.offsets) }

    mapped : (b : Bool)
        → map_rows (deposit_row s) (cond b (without s.deposits account) (put s.deposits account entry))
        ≡ cond b (without (map_rows (deposit_row s) s.deposits) account)
        (put (map_rows (deposit_row s) s.deposits) account (deposit_row s entry))
    mapped true = map-without (deposit_row s) s.deposits account
    mapped false = map-put (deposit_row s) s.deposits account entry

pub owned_stands : (most : ℕ) (s : State) (account put_in out : ℕ) → amount_after s account put_in out ≤ most
    → PoolStands most (part_of (image s)) → PoolStands most (part_of (image (owned s account put_in out)))
owned_stands most s account put_in out fits h =
    subst (λ (w : PoolPart). PoolStands most w) (sym (owned_part s account put_in out))
    (own_part_stands most (part_of (image s)) account (amount_after s account put_in out) fits h)

-- ---- an offset

after_place : (a b : EpochScale) → IsBefore b a → place_order a b ≡ Greater
after_place a b (inl first) = ap (λ o. ordering_then o (nat_cmp a.1 b.1)) (sym (nat_cmp_is a.0 b.0 Greater first))
after_place a b (inr same) =
    ap (λ o. ordering_then o (nat_cmp a.1 b.1)) (sym (nat_cmp_is a.0 b.0 Equal (sym same.0)))
    ∙ sym (nat_cmp_is a.1 b.1 Greater same.1)

all_insert : (P : EpochScale × ℕ → Type 0) (place : EpochScale) (sum : ℕ) (table : List (EpochScale × ℕ)) → P
    (place, sum)
    → AllByRecursion P table → AllByRecursion (FinishedStands place) table
    → AllByRecursion P (insert_entry place_order table place sum)
all_insert P place sum [] p h before = (p, tt)
all_insert P place sum (e ∷ es) p h before =
    subst (λ o. AllByRecursion P (match_ordering o ((place, sum) ∷ e ∷ es) ((e.0, sum) ∷ es) (e
    ∷ insert_entry place_order es place sum))) (sym (after_place place e.0 before.0.before))
    (h.0, all_insert P place sum es p h.1 before.1)

later_rows : (now next : EpochScale) → IsUpTo now next → (table : List (EpochScale × ℕ))
    → AllByRecursion (FinishedStands now) table → AllByRecursion (FinishedStands next) table
later_rows now next up [] h = tt
later_rows now next up (e ∷ es) h = (
  record { some = h.0.some; most = h.0.most; before = before_up_to e.0 now next h.0.before up },
  later_rows now next up es h.1,
)

-- an image that has just this part: the laws on lists of offsets speak of images
abbrev image_with : PoolPart → Image
image_with w = record opening_image { p = w.p; scale = w.scale; epoch = w.epoch; sum = w.sum; finished = w.finished }

abbrev words_with : PoolPart → ScaledProduct
words_with w = record { p = w.p; scale = w.scale; epoch = w.epoch }

-- the part after an offset
abbrev offset_part : PoolPart → PoolOffset → PoolPart
offset_part w o =
    let next = after_offset (words_with w) o in
    record w {
      p = next.p;
      scale = next.scale;
      epoch = next.epoch;
      sum = sum_after (words_with w) o w.sum;
      finished = finished_after w.finished (words_with w) o (w.sum + sum_growth (words_with w) o);
    }

module _ (most : ℕ) (served : most ≤ 10 ^ (9 * RISES_MOST)) (w : PoolPart) (o : PoolOffset) (range : IsWithinRange
    (words_with w)) (takes : TakesPartUpTo most o) (less : o.coll ≤ OFFSET_MOST * o.debt) where
  abbrev next : ScaledProduct
  next = after_offset (words_with w) o

  reaches : IsUpTo (place_of (words_with w)) (place_of next)
  reaches = list_reaches (words_with w) (o ∷ [])

  sum_next : w.sum + OFFSET_MOST * w.p ≤ OFFSET_MOST * P_OPENING → (b : Bool)
      → is_place (place_of (words_with w)) (place_of next) ≡ b
      → cond b (w.sum + sum_growth (words_with w) o) 0 + OFFSET_MOST * next.p ≤ OFFSET_MOST * P_OPENING
  sum_next h true e = stays_within most (words_with w) o w.sum range takes less h
      (sym (is_place-same (place_of (words_with w)) (place_of next) e))
  sum_next h false e = let within = offset_within most served (words_with w) o range takes in omega (arith, within.most)

  rows_next : w.sum + OFFSET_MOST * w.p ≤ OFFSET_MOST * P_OPENING
      → AllByRecursion (FinishedStands (w.epoch, w.scale)) w.finished → (b c : Bool)
      → is_place (place_of (words_with w)) (place_of next) ≡ b → (w.sum + sum_growth (words_with w) o == 0) ≡ c
      → AllByRecursion (FinishedStands (place_of next))
      (cond b w.finished (cond c w.finished (insert_entry place_order w.finished (place_of (words_with w))
      (w.sum + sum_growth (words_with w) o))))
  rows_next h rows true c e f = later_rows (w.epoch, w.scale) (place_of next) reaches w.finished rows
  rows_next h rows false true e f = later_rows (w.epoch, w.scale) (place_of next) reaches w.finished rows
  rows_next h rows false false e f =
      let made : FinishedStands (place_of next) (place_of (words_with w), w.sum + sum_growth (words_with w) o) =
      record {
        some = not_zero (w.sum + sum_growth (words_with w) o) f;
        most = finishes_within most (words_with w) o w.sum takes less h;
        before = up_to_other (place_of (words_with w)) (place_of next) reaches e;
      } in
      all_insert (FinishedStands (place_of next)) (place_of (words_with w)) (w.sum + sum_growth (words_with w) o)
      w.finished made
      (later_rows (w.epoch, w.scale) (place_of next) reaches w.finished rows) rows

  -- the table of one offset, made from the part on
  ordered_next : IsStrictlySortedBy place_order (keys_of w.finished)
      → IsStrictlySortedBy place_order (keys_of (finished_after w.finished (words_with w) o
      (w.sum + sum_growth (words_with w) o)))
  ordered_next h =
      let i = image_with w in
      let whole : sumat i [] (place_of (words_with w)) ≡ w.sum =
      added (ap (λ b. cond b w.sum (unwrap_or (lookup (is_place (w.epoch, w.scale)) w.finished) 0))
      (is_place-itself (w.epoch, w.scale))) in
      subst (λ n. IsStrictlySortedBy place_order (keys_of (finished_after w.finished (words_with w) o
      (n + sum_growth (words_with w) o)))) whole
      (subst (λ (t : List (EpochScale × ℕ)). IsStrictlySortedBy place_order (keys_of t)) (finished-snoc i [] o)
      (finished-ascend i (o ∷ []) h))
    where
      added : start_sum (image_with w) (w.epoch, w.scale) ≡ w.sum
          → start_sum (image_with w) (w.epoch, w.scale) + 0 ≡ w.sum
      added e = omega (arith, e)

  offset_part_stands : ((q : EpochScale) → sum_in (w.epoch, w.scale) w.sum w.finished q
      ≤ sum_in (place_of next) (offset_part w o).sum (offset_part w o).finished q) → PoolStands most w
      → PoolStands most (offset_part w o)
  unfolding sum_after finished_after
  offset_part_stands more h =
      let within = offset_within most served (words_with w) o range takes in
      record {
        least = within.least;
        highest = within.most;
        sum = sum_next h.sum (is_place (place_of (words_with w)) (place_of next)) refl;
        finished = rows_next h.sum h.finished (is_place (place_of (words_with w)) (place_of next)) (w.sum + sum_growth
            (words_with w) o == 0) refl refl;
        ordered = ordered_next h.ordered;
        ascend = h.ascend;
        deposits = all-weaken (DepositStands most (w.epoch, w.scale) w.sum w.finished) (DepositStands most
            (place_of next) (offset_part w o).sum (offset_part w o).finished)
            (λ d s. record {
              some = s.some;
              amount = s.amount;
              least_p = s.least_p;
              most_p = s.most_p;
              place = up_to_trans (d.epoch, d.scale) (w.epoch, w.scale) (place_of next) s.place reaches;
              within = omega (arith, s.within, more (d.epoch, d.scale));
            }) w.deposits h.deposits;
      }

pub part_offset : (s : State) → IsWellFormed s → (debt coll : ℕ) → part_of (image (offset s debt coll))
    ≡ offset_part (part_of (image s)) (offset_now s debt coll)
unfolding offset_by words_by
part_offset s f debt coll = ap part_of (offset-image s f debt coll)

-- no place's sum falls
sums_more : (s : State) → IsWellFormed s → (debt coll : ℕ) → (q : EpochScale)
    → start_sum (image s) q ≤ start_sum (image (offset s debt coll)) q
sums_more s f debt coll q =
    let o = offset_now s debt coll in
    let before : start_sum (image s) q ≡ sumat s.start s.offsets q = sum_shown s.start s.offsets f.0 q in
    let after : start_sum (image (offset s debt coll)) q ≡ sumat s.start (s.offsets ++ o ∷ []) q =
    sum_shown s.start (s.offsets ++ o ∷ []) f.0 q in
    let snoc = rises-snoc (start_words s.start) s.offsets o q in
    omega (arith, before, after, snoc)

-- how far the place moves
pub record MovesFew (now next : EpochScale) : Type 0 where
  pub scale : next.1 ≤ now.1 + 3
  pub epoch : next.0 ≤ now.0 + 1

module _ (most : ℕ) (served : most ≤ 10 ^ (9 * RISES_MOST)) (s : State) (debt coll : ℕ) (f : IsWellFormed s) (some : 1
    ≤ debt) (within : debt ≤ pool_total s) (limit : pool_total s ≤ most) (h : PoolStands most (part_of (image s))) where
  takes : TakesPartUpTo most (offset_now s debt coll)
  takes = record { some = some; within = within; limit = limit }

  pub offset_stands : coll ≤ OFFSET_MOST * debt → PoolStands most (part_of (image (offset s debt coll)))
  offset_stands less =
      let e = part_offset s f debt coll in
      let w = part_of (image s) in
      subst (λ (v : PoolPart). PoolStands most v) (sym e)
      (offset_part_stands most served w (offset_now s debt coll) (record { least = h.least; most = h.highest })
      takes less
      (λ q. subst (λ (v : PoolPart). sum_in (w.epoch, w.scale) w.sum w.finished q
      ≤ sum_in (v.epoch, v.scale) v.sum v.finished q) e (sums_more s f debt coll q)) h)

  moves_few : (b : Bool) → (debt == pool_total s) ≡ b
      → MovesFew (place_of (words_of s)) (place_of (after_offset (words_of s) (offset_now s debt coll)))
  moves_few true e = let all = takes_all (words_of s) (offset_now s debt coll) e
      in record { scale = omega (arith, all.scale); epoch = omega (arith, all.epoch) }
  moves_few false e =
      let part = leaves_part (words_of s) (offset_now s debt coll) within e in
      let few = rise_few most served (words_of s) (offset_now s debt coll) (record {
        least = h.least;
        most = h.highest;
      }) takes in
      record { scale = omega (arith, part.scale, few); epoch = omega (arith, part.epoch) }

  pub offset_moves : MovesFew (place_of (words_of s)) (place_of (words_of (offset s debt coll)))
  offset_moves =
      subst (λ (v : ScaledProduct). MovesFew (place_of (words_of s)) (place_of v)) (sym (words-snoc s debt coll))
      (moves_few (debt == pool_total s) refl)
