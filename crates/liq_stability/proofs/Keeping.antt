-- What holds of the pool at all times is kept by own operations and offsets.
use Rattle.std.proofs.Common.{◌≡◌, ℕ, ◌+◌, ◌-◌, ◌*◌, ◌≤◌, Bool, true, false, cond, List, [], ◌∷◌, ◌++◌, refl, ap, sym, ◌∙◌, subst, le_trans, arith, Some, None, Option, inr}
use Rattle.std.specs.Prelude.{unwrap_or, not, option_copied, IfSome, IsTrue, ◌==◌, ◌||◌}
use denote.Ref.{Bor}
use Rattle.std.specs.List.{AllByRecursion}
use Rattle.std.specs.List.Sorted.{IsStrictlySortedBy}
use Rattle.std.specs.Map.{keys_of}
use Rattle.std.proofs.lemmas.Bool.Decides.{nat_tests}
use Rattle.std.proofs.lemmas.List.{map-append}
use Rattle.liq_types.specs.declared.amounts.TheConstants.{LIM, OFFSET_MOST, P_OPENING, RISES_MOST}
use Rattle.liq_types.specs.declared.figures.Deposit.{Deposit}
use Rattle.liq_types.specs.ImageRows.{finished_row}
use Rattle.liq_types.specs.Product.{ScaledProduct, after_offset, place_of, is_place, place_order, sum_growth}
use Rattle.liq_types.specs.Soundness.{is_product, is_sum_beside}
use Rattle.liq_types.specs.State.{PoolOffset}
use Rattle.liq_types.specs.Tables.{EpochScale, Table, at, put, without}
use Rattle.liq_types.proofs.Ascending.{none-ascends}
use Rattle.liq_types.proofs.Lookups.{all-at}
use Rattle.liq_types.proofs.MapRows.{all-put, all-without, all-weaken}
use Rattle.liq_types.proofs.Places.{IsUpTo, up_to_trans, before_up_to, up_to_other, is_place-same, is_place-itself, is_place-turned, list_reaches}
use Rattle.liq_types.proofs.Ranges.{offset_within, rise_few}
use Rattle.liq_types.proofs.Sums.{leaves_part, takes_all, sum_stays, sum_finished}
use Rattle.liq_tables.specs.Rows.{is_used_deposit}
use Rattle.liq_tables.specs.WithRoom.{written}
use Rattle.liq_stability.specs.declared.words.PoolWords.{PoolWords}
use Rattle.liq_types.specs.declared.image.FinishedSum.{FinishedSum}
use Rattle.liq_stability.specs.Kept.{IsSoundPool, IsDepositOf, finished_rows, is_sound_sum, with_last, sum_at, left_in}
use Rattle.liq_stability.specs.Position.{deposit_now}
use Rattle.liq_stability.specs.Words.{opening_pool, words_in, offset_in, sum_with, words_after, finished_by, finished_with}
use Rattle.liq_stability.proofs.Finishing.{Finished, AreBefore, put_last, all_last, sorted_last, sum_in, none_in, other_last, same_last}
use Rattle.liq_stability.proofs.Rising.{range_in, takes_in}
use Rattle.liq_stability.proofs.Tests.{IsFinished, IsMarked, IsInRange, product_in, product_tested, sum_beside, beside_tested, finished_in, finished_tested, deposit_in, deposit_tested}

-- ---- read off

each_finished : (now : EpochScale) (table : Finished)
    → AllByRecursion (λ (row : EpochScale × ℕ). IsTrue (is_sound_sum now row)) table → AllByRecursion
    (IsFinished now) table
each_finished now [] h = tt
each_finished now (e ∷ es) h = (finished_in now e h.0, each_finished now es h.1)

finished_each : (now : EpochScale) (table : Finished) → AllByRecursion (IsFinished now) table
    → AllByRecursion (λ (row : EpochScale × ℕ). IsTrue (is_sound_sum now row)) table
finished_each now [] h = tt
finished_each now (e ∷ es) h = (finished_tested now e h.0, finished_each now es h.1)

all_most : (now : EpochScale) (table : Finished) → AllByRecursion (IsFinished now) table
    → AllByRecursion (λ (row : EpochScale × ℕ). row.1 ≤ OFFSET_MOST * P_OPENING) table
all_most now [] h = tt
all_most now (e ∷ es) h = (h.0.most, all_most now es h.1)

all_before : (now : EpochScale) (table : Finished) → AllByRecursion (IsFinished now) table → AreBefore now table
all_before now [] h = tt
all_before now (e ∷ es) h = (h.0.before, all_before now es h.1)

pub sums_within : (w : PoolWords) (items : List FinishedSum) (deposits : Table Deposit)
    → IsSoundPool w (finished_rows items) deposits
    → AllByRecursion (λ (row : EpochScale × ℕ). row.1 ≤ OFFSET_MOST * P_OPENING) (finished_rows items)
sums_within w items deposits h = all_most (w.epoch, w.scale) (finished_rows items) (each_finished (
  w.epoch,
  w.scale,
) (finished_rows items) h.sums)

pub before_now : (w : PoolWords) (table : Finished) (deposits : Table Deposit) → IsSoundPool w table deposits
    → AreBefore (w.epoch, w.scale) table
before_now w table deposits h = all_before (w.epoch, w.scale) table (each_finished (w.epoch, w.scale) table h.sums)

-- the deposit that is found
pub found_sound : (w : PoolWords) (table : Finished) (deposits : Table Deposit) (account : ℕ) (o : Option (Bor Deposit))
    → option_copied o ≡ at deposits account → IsSoundPool w table deposits → IfSome o (λ d. IsDepositOf w table d.now)
found_sound w table deposits account None is h = tt
found_sound w table deposits account (Some d) is h = all-at (IsDepositOf w table) deposits account d.now h.each (sym is)

-- ---- at the start

pub opening_sound : IsSoundPool opening_pool [] []
unfolding IsStrictlySortedBy
opening_sound = record {
  product = product_tested P_OPENING (record { least = omega arith; most = omega arith });
  sum = beside_tested 0 P_OPENING (omega arith);
  sums = tt;
  places = tt;
  each = tt;
  accounts = tt;
  total = omega arith;
  coll = omega arith;
}

-- ---- an own operation

pub owned_sound : (w : PoolWords) (table : Finished) (deposits : Table Deposit) (account amount total coll : ℕ)
    → IsSoundPool w table deposits → amount ≤ LIM → total ≤ LIM → coll ≤ LIM
    → IsSoundPool (record w { total = total; coll = coll }) table (left_in deposits w account amount)
owned_sound w table deposits account amount total coll h fits total_fits coll_fits =
    record {
      product = h.product;
      sum = h.sum;
      sums = h.sums;
      places = h.places;
      each = rows (amount == 0);
      accounts = none-ascends (amount == 0) deposits account (deposit_now w amount) h.accounts;
      total = total_fits;
      coll = coll_fits;
    }
  where
    now : EpochScale
    now = (w.epoch, w.scale)

    marked : IsMarked now (sum_at w table now) (deposit_now w amount)
    marked = record {
      product = product_in w.p h.product;
      place = inr (refl, omega arith);
      within = subst (λ b. w.sum ≤ cond b w.sum (sum_in table now)) (sym (is_place-itself now)) (omega arith);
    }

    row : IsDepositOf w table (deposit_now w amount)
    row = record { amount = fits; sound = deposit_tested now (sum_at w table now) (deposit_now w amount) marked }

    rows : (b : Bool) → AllByRecursion (λ (r : ℕ × Deposit). IsDepositOf w table r.1) (cond b (without deposits account)
        (put deposits account (deposit_now w amount)))
    rows true = all-without (IsDepositOf w table) deposits account h.each
    rows false = all-put (IsDepositOf w table) deposits account (deposit_now w amount) row h.each

-- what is written of a deposit of nothing leaves no row
pub written_left : (deposits : Table Deposit) (w : PoolWords) (account amount : ℕ)
    → written is_used_deposit deposits account (deposit_now w amount) ≡ left_in deposits w account amount
written_left deposits w account amount = by (amount == 0) where
  by : (b : Bool) → cond (not b) (put deposits account (deposit_now w amount)) (without deposits account)
      ≡ cond b (without deposits account) (put deposits account (deposit_now w amount))
  by true = refl
  by false = refl

-- ---- an offset

-- by what is asked of the words
module _ (w : PoolWords) (debt coll : ℕ) (product : IsTrue (is_product w.p)) (sum : IsTrue (is_sum_beside w.sum w.p))
    (some : 1 ≤ debt) (within : debt ≤ w.total) (limit : w.total ≤ LIM) (worth : coll ≤ OFFSET_MOST * debt) where
  abbrev o : PoolOffset
  o = offset_in w debt coll

  abbrev next : ScaledProduct
  next = after_offset (words_in w) o

  pub sound_product : IsInRange next.p
  sound_product =
      let r = offset_within LIM (omega arith) (words_in w) o (range_in w product)
      (takes_in w debt coll some within limit) in
      record { least = r.least; most = r.most }

  beside_by : (b : Bool) → is_place (place_of (words_in w)) (place_of next) ≡ b → cond b (sum_with w debt coll) 0
      ≤ OFFSET_MOST * (P_OPENING - next.p)
  beside_by true e =
      sum_stays LIM (words_in w) o w.sum (range_in w product) (takes_in w debt coll some within limit) worth
      (sum_beside w.sum w.p sum)
      (sym (is_place-same (place_of (words_in w)) (place_of next) e))
  beside_by false e = omega arith

  pub sound_sum : (words_after w debt coll).sum ≤ OFFSET_MOST * (P_OPENING - next.p)
  sound_sum = beside_by (is_place (place_of (words_in w)) (place_of next)) refl

  pub sound_finished : sum_with w debt coll ≤ OFFSET_MOST * P_OPENING
  sound_finished = sum_finished LIM (words_in w) o w.sum (range_in w product) (takes_in w debt coll some within limit)
      worth (sum_beside w.sum w.p sum)

  few_by : (b : Bool) → (debt == w.total) ≡ b → next.scale ≤ w.scale + RISES_MOST
  few_by true e = let all = takes_all (words_in w) o e in omega (arith, all.scale)
  few_by false e =
      let part = leaves_part (words_in w) o within e in
      let few = rise_few LIM (omega arith) (words_in w) o (range_in w product) (takes_in w debt coll some within limit)
      in
      omega (arith, part.scale, few)

  pub few_scales : next.scale ≤ w.scale + RISES_MOST
  few_scales = few_by (debt == w.total) refl

-- the sum that it finishes goes behind all others
last_by : (w : PoolWords) (items : List FinishedSum) (sum : ℕ) → AreBefore (w.epoch, w.scale) (finished_rows items)
    → (b : Bool)
    → finished_rows (with_last items (cond b None (Some (record { epoch = w.epoch; scale = w.scale; sum = sum }))))
    ≡ finished_with (finished_rows items) (cond b None (Some (record { epoch = w.epoch; scale = w.scale; sum = sum })))
last_by w items sum before true = refl
last_by w items sum before false =
    map-append finished_row items (record { epoch = w.epoch; scale = w.scale; sum = sum } ∷ [])
    ∙ sym (put_last (finished_rows items) (w.epoch, w.scale) sum before)

pub finished_last : (w : PoolWords) (items : List FinishedSum) (deposits : Table Deposit) (debt coll : ℕ)
    → IsSoundPool w (finished_rows items) deposits → finished_rows (with_last items (finished_by w debt coll))
    ≡ finished_with (finished_rows items) (finished_by w debt coll)
finished_last w items deposits debt coll h =
    last_by w items (sum_with w debt coll) (before_now w (finished_rows items) deposits h)
    (is_place (w.epoch, w.scale) (place_of (after_offset (words_in w) (offset_in w debt coll))) || sum_with w debt
    coll == 0)

-- by what holds of the pool
module _ (w : PoolWords) (table : Finished) (deposits : Table Deposit) (debt coll : ℕ)
    (h : IsSoundPool w table deposits) (some : 1 ≤ debt) (within : debt ≤ w.total) (worth : coll
    ≤ OFFSET_MOST * debt) where
  abbrev now : EpochScale
  now = (w.epoch, w.scale)

  abbrev later_words : ScaledProduct
  later_words = after_offset (words_in w) (offset_in w debt coll)

  reaches : IsUpTo now (place_of later_words)
  reaches = list_reaches (words_in w) (offset_in w debt coll ∷ [])

  rows : AllByRecursion (IsFinished now) table
  rows = each_finished now table h.sums

  later : (t : Finished) → AllByRecursion (IsFinished now) t → AllByRecursion (IsFinished (place_of later_words)) t
  later [] k = tt
  later (e ∷ es) k = (
    record { most = k.0.most; before = before_up_to e.0 now (place_of later_words) k.0.before reaches },
    later es k.1,
  )

  made : is_place now (place_of later_words) ≡ false → IsFinished (place_of later_words) (now, sum_with w debt coll)
  made e = record {
    most = sound_finished w debt coll h.product h.sum some within h.total worth;
    before = up_to_other now (place_of later_words) reaches e;
  }

  -- the table after it, with what is told of the two tests
  abbrev table_by : Bool → Bool → Finished
  table_by b c =
      finished_with table (cond (b || c) None (Some (record {
        epoch = w.epoch;
        scale = w.scale;
        sum = sum_with w debt coll;
      })))

  abbrev end : Finished
  end = table ++ (now, sum_with w debt coll) ∷ []

  at_end : finished_with table (Some (record { epoch = w.epoch; scale = w.scale; sum = sum_with w debt coll })) ≡ end
  at_end = put_last table now (sum_with w debt coll) (all_before now table rows)

  all_by : (b c : Bool) → is_place now (place_of later_words) ≡ b
      → AllByRecursion (IsFinished (place_of later_words)) (table_by b c)
  all_by true c e = later table rows
  all_by false true e = later table rows
  all_by false false e = subst (λ (t : Finished). AllByRecursion (IsFinished (place_of later_words)) t) (sym at_end)
      (all_last (IsFinished (place_of later_words)) table (now, sum_with w debt coll) (later table rows) (made e))

  sorted_by : (b c : Bool) → IsStrictlySortedBy place_order (keys_of (table_by b c))
  sorted_by true c = h.places
  sorted_by false true = h.places
  sorted_by false false = subst (λ (t : Finished). IsStrictlySortedBy place_order (keys_of t)) (sym at_end)
      (sorted_last table now (sum_with w debt coll) (all_before now table rows) h.places)

  clash : (b : Bool) → b ≡ true → b ≡ false → ⊥
  clash b h k = cc

  no_sum : (more : ℕ) → (w.sum + more == 0) ≡ true → w.sum ≡ 0
  no_sum more f = grind (arith, nat_tests, f)

  -- no sum falls
  grown : (q : EpochScale) (b c x y : Bool) → is_place now (place_of later_words) ≡ b → (sum_with w debt coll == 0) ≡ c
      → is_place now q ≡ x → is_place (place_of later_words) q ≡ y → cond x w.sum (sum_in table q)
      ≤ cond y (cond b (sum_with w debt coll) 0) (sum_in (table_by b c) q)
  grown q true c true true e f g k = omega arith
  grown q true c true false e f g k =
      absurd (clash (is_place (place_of later_words) q) (subst (λ (p : EpochScale). is_place p q
      ≡ true) (is_place-same now (place_of later_words) e) g) k)
  grown q true c false true e f g k =
      absurd (clash (is_place now q) (subst (λ (p : EpochScale). is_place p q
      ≡ true) (sym (is_place-same now (place_of later_words) e)) k) g)
  grown q true c false false e f g k = omega arith
  grown q false c true true e f g k =
      absurd (clash (is_place now (place_of later_words)) (subst (λ (p : EpochScale). is_place now p
      ≡ true) (is_place-same now q g ∙ sym (is_place-same (place_of later_words) q k)) (is_place-itself now)) e)
  grown q false true true false e f g k = let none : w.sum ≡ 0 =
      no_sum (sum_growth (words_in w) (offset_in w debt coll)) f in omega (arith, none)
  grown q false false true false e f g k =
      let read : sum_in (table_by false false) q ≡ sum_with w debt coll =
      ap (λ (t : Finished). sum_in t q) at_end ∙ ap (λ (p : EpochScale). sum_in end p) (sym (is_place-same now q g))
      ∙ ap (λ (v : Option ℕ). unwrap_or v 0) (same_last table now (sum_with w debt coll) (all_before now table rows)) in
      omega (arith, read)
  grown q false c false true e f g k =
      let none : sum_in table q ≡ 0 =
      ap (λ (v : Option ℕ). unwrap_or v 0) (none_in table now q (all_before now table rows) (subst (IsUpTo now)
      (is_place-same (place_of later_words) q k) reaches)) in
      omega (arith, none)
  grown q false true false false e f g k = omega arith
  grown q false false false false e f g k =
      let read : sum_in (table_by false false) q ≡ sum_in table q =
      ap (λ (t : Finished). sum_in t q) at_end
      ∙ ap (λ (v : Option ℕ). unwrap_or v 0) (other_last table now q (sum_with w debt coll) (is_place-turned q now
      ∙ g)) in
      omega (arith, read)

  pub offset_sound : w.coll + coll ≤ LIM
      → IsSoundPool (words_after w debt coll) (finished_with table (finished_by w debt coll)) deposits
  offset_sound limit = record {
    product = product_tested later_words.p (sound_product w debt coll h.product h.sum some within h.total worth);
    sum = beside_tested (words_after w debt coll).sum later_words.p (sound_sum w debt coll h.product h.sum some within
        h.total worth);
    sums = finished_each (place_of later_words) _ (all_by (is_place now (place_of later_words)) (sum_with w debt coll
        == 0) refl);
    places = sorted_by (is_place now (place_of later_words)) (sum_with w debt coll == 0);
    each = all-weaken (IsDepositOf w table) (IsDepositOf (words_after w debt coll) (finished_with table
        (finished_by w debt coll))) moved deposits h.each;
    accounts = h.accounts;
    total = omega (arith, h.total);
    coll = limit;
  } where
    moved : (d : Deposit) → IsDepositOf w table d
        → IsDepositOf (words_after w debt coll) (finished_with table (finished_by w debt coll)) d
    moved d k =
        let m = deposit_in now (sum_at w table (d.epoch, d.scale)) d k.sound in
        record {
          amount = k.amount;
          sound = deposit_tested (place_of later_words) (sum_at (words_after w debt coll) (finished_with table
              (finished_by w debt coll)) (d.epoch, d.scale)) d (record {
                product = m.product;
                place = up_to_trans (d.epoch, d.scale) now (place_of later_words) m.place reaches;
                within = le_trans m.within (grown (d.epoch, d.scale) (is_place now (place_of later_words))
                    (sum_with w debt coll == 0) (is_place now (d.epoch, d.scale)) (is_place (place_of later_words) (
                      d.epoch,
                      d.scale,
                    )) refl refl refl refl);
              });
        }
