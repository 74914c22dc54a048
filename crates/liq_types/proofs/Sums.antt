-- How large the sums of the Stability Pool may become.
use Rattle.std.proofs.Common.{◌≡◌, ℕ, ◌+◌, ◌-◌, ◌*◌, ◌≤◌, ◌<◌, Bool, true, false, cond, List, [], ◌∷◌, ◌++◌, arith, refl, ap, sym, subst}
use Rattle.std.specs.Prelude.{◌==◌}
use Rattle.std.proofs.Math.Nat.{div-mul-le_self, le_of_mul-le-mul_right}
use Rattle.std.proofs.lemmas.Bool.Decides.{nat_tests}
use Rattle.liq_types.specs.declared.amounts.TheConstants.{P_OPENING, OFFSET_MOST}
use Rattle.liq_types.specs.Image.{Image, EpochScale}
use Rattle.liq_types.specs.Product.{ScaledProduct, IsWithinRange, TakesPartUpTo, opening_words, after_offset, product_after, rise_of, sum_growth, place_of, is_place, prod, sumat, start_words}
use Rattle.liq_types.specs.State.{PoolOffset}
use Rattle.liq_types.specs.WellFormed.{AreFinished}
use Rattle.liq_types.proofs.Places.{is_place-same, rises-snoc, sum-snoc, sum_after, last_of}
use Rattle.liq_types.proofs.Rounding.{sum_within, finished_within}

-- ---- what an offset makes of the words

-- the offset takes a part of the pool
pub record LeavesPart (w : ScaledProduct) (o : PoolOffset) : Type 0 where
  pub less : o.debt < o.total
  pub p : (after_offset w o).p ≡ product_after w.p o (rise_of w.p o)
  pub scale : (after_offset w o).scale ≡ w.scale + rise_of w.p o
  pub epoch : (after_offset w o).epoch ≡ w.epoch

-- the offset takes all that the pool has
pub record TakesAll (w : ScaledProduct) (o : PoolOffset) : Type 0 where
  pub all : o.debt ≡ o.total
  pub p : (after_offset w o).p ≡ P_OPENING
  pub scale : (after_offset w o).scale ≡ 0
  pub epoch : (after_offset w o).epoch ≡ w.epoch + 1

-- the words after an offset, by whether it takes all
abbrev words_if : Bool → ScaledProduct → PoolOffset → ScaledProduct
words_if all w o = cond all (record opening_words { epoch = w.epoch + 1 })
    (record { p = product_after w.p o (rise_of w.p o); scale = w.scale + rise_of w.p o; epoch = w.epoch })

pub leaves_part : (w : ScaledProduct) (o : PoolOffset) → o.debt ≤ o.total → (o.debt == o.total) ≡ false → LeavesPart w o
leaves_part w o within e =
    record {
      less = grind (arith, nat_tests, e, within);
      p = ap (λ b. (words_if b w o).p) e;
      scale = ap (λ b. (words_if b w o).scale) e;
      epoch = ap (λ b. (words_if b w o).epoch) e;
    }

pub takes_all : (w : ScaledProduct) (o : PoolOffset) → (o.debt == o.total) ≡ true → TakesAll w o
takes_all w o e =
    record {
      all = grind (arith, nat_tests, e);
      p = ap (λ b. (words_if b w o).p) e;
      scale = ap (λ b. (words_if b w o).scale) e;
      epoch = ap (λ b. (words_if b w o).epoch) e;
    }

-- ---- one offset

module _ (most : ℕ) where
  -- a sum and what it gains, where the product stays at its place
  stays_by : (w : ScaledProduct) (o : PoolOffset) (sum : ℕ) → IsWithinRange w → TakesPartUpTo most o
      → o.coll ≤ OFFSET_MOST * o.debt → sum + OFFSET_MOST * w.p ≤ OFFSET_MOST * P_OPENING → place_of (after_offset w o)
      ≡ place_of w → (b : Bool) → (o.debt == o.total) ≡ b → sum + sum_growth w o + OFFSET_MOST * (after_offset w o).p
      ≤ OFFSET_MOST * P_OPENING
  stays_by w o sum range h less under stays true e =
      let ends = takes_all w o e in
      let same : (after_offset w o).epoch ≡ w.epoch = ap (λ (q : EpochScale). q.0) stays in
      absurd (omega (arith, ends.epoch, same))
  stays_by w o sum range h less under stays false e =
      let part = leaves_part w o h.within e in
      let same : (after_offset w o).scale ≡ w.scale = ap (λ (q : EpochScale). q.1) stays in
      let none : rise_of w.p o ≡ 0 = omega (arith, part.scale, same) in
      let p_is : (after_offset w o).p ≡ product_after w.p o 0 = subst (λ k. (after_offset w o).p
      ≡ product_after w.p o k) none part.p in
      let low : product_after w.p o 0 * o.total ≤ w.p * ((o.total - o.debt) * 1) =
      div-mul-le_self (w.p * ((o.total - o.debt) * 1)) o.total in
      let low_p : (after_offset w o).p * o.total ≤ w.p * (o.total - o.debt) =
      subst (λ k. k * o.total ≤ w.p * (o.total - o.debt)) (sym p_is) (omega (arith, low)) in
      let gained : sum_growth w o * o.total ≤ o.coll * w.p = div-mul-le_self (o.coll * w.p) o.total in
      le_of_mul-le-mul_right (sum_within sum (sum_growth w o) w.p (after_offset w o).p P_OPENING o.debt
      (o.total - o.debt) o.total o.coll (omega (arith, part.less)) less gained low_p under) (omega (arith, part.less))

  pub stays_within : (w : ScaledProduct) (o : PoolOffset) (sum : ℕ) → IsWithinRange w → TakesPartUpTo most o
      → o.coll ≤ OFFSET_MOST * o.debt → sum + OFFSET_MOST * w.p ≤ OFFSET_MOST * P_OPENING → place_of (after_offset w o)
      ≡ place_of w → sum + sum_growth w o + OFFSET_MOST * (after_offset w o).p ≤ OFFSET_MOST * P_OPENING
  stays_within w o sum range h less under stays = stays_by w o sum range h less under stays (o.debt == o.total) refl

  pub finishes_within : (w : ScaledProduct) (o : PoolOffset) (sum : ℕ) → TakesPartUpTo most o
      → o.coll ≤ OFFSET_MOST * o.debt → sum + OFFSET_MOST * w.p ≤ OFFSET_MOST * P_OPENING
      → sum + sum_growth w o ≤ OFFSET_MOST * P_OPENING
  finishes_within w o sum h less under =
      let gained : sum_growth w o * o.total ≤ o.coll * w.p = div-mul-le_self (o.coll * w.p) o.total in
      le_of_mul-le-mul_right (finished_within sum (sum_growth w o) w.p P_OPENING o.debt o.total o.coll h.within less
      gained under) (omega (arith, h.some, h.within))

  pub sum_stays : (w : ScaledProduct) (o : PoolOffset) (sum : ℕ) → IsWithinRange w → TakesPartUpTo most o
      → o.coll ≤ OFFSET_MOST * o.debt → sum ≤ OFFSET_MOST * (P_OPENING - w.p) → place_of (after_offset w o) ≡ place_of w
      → sum + sum_growth w o ≤ OFFSET_MOST * (P_OPENING - (after_offset w o).p)
  sum_stays w o sum range h less under stays =
      let more = stays_within w o sum range h less (omega (arith, under, range.most)) stays in
      omega (arith, more)

  pub sum_finished : (w : ScaledProduct) (o : PoolOffset) (sum : ℕ) → IsWithinRange w → TakesPartUpTo most o
      → o.coll ≤ OFFSET_MOST * o.debt → sum ≤ OFFSET_MOST * (P_OPENING - w.p)
      → sum + sum_growth w o ≤ OFFSET_MOST * P_OPENING
  sum_finished w o sum range h less under = finishes_within w o sum h less (omega (arith, under, range.most))

-- ---- the sums of all places

-- beside the product of now, and at every place
pub record SumsAreWithin (i : Image) (os : List PoolOffset) : Type 0 where
  pub now : sumat i os (last_of i os) + OFFSET_MOST * (prod i os).p ≤ OFFSET_MOST * P_OPENING
  pub all : (q : EpochScale) → sumat i os q ≤ OFFSET_MOST * P_OPENING

module _ (most : ℕ) (i : Image) (os : List PoolOffset) (o : PoolOffset) (f : AreFinished i) (range : IsWithinRange
    (prod i os)) (next : IsWithinRange (after_offset (prod i os) o)) (h : TakesPartUpTo most o) (less : o.coll
    ≤ OFFSET_MOST * o.debt) (before : SumsAreWithin i os) where
  now_after : (b : Bool) → is_place (last_of i os) (place_of (after_offset (prod i os) o)) ≡ b
      → cond b (sumat i os (last_of i os) + sum_growth (prod i os) o) 0 + OFFSET_MOST * (after_offset (prod i os) o).p
      ≤ OFFSET_MOST * P_OPENING
  now_after true e = stays_within most (prod i os) o (sumat i os (last_of i os)) range h less before.now
      (sym (is_place-same (last_of i os) (place_of (after_offset (prod i os) o)) e))
  now_after false e = omega (arith, next.most)

  all_after : (q : EpochScale) (b : Bool) → is_place (last_of i os) q ≡ b
      → sumat i os q + cond b (sum_growth (prod i os) o) 0 ≤ OFFSET_MOST * P_OPENING
  all_after q true e =
      subst (λ (r : EpochScale). sumat i os r + sum_growth (prod i os) o ≤ OFFSET_MOST * P_OPENING)
      (is_place-same (last_of i os) q e)
      (finishes_within most (prod i os) o (sumat i os (last_of i os)) h less before.now)
  all_after q false e = omega (arith, before.all q)

  -- without what prod of the longer list is
  pub now-snoc : sumat i (os ++ o ∷ []) (place_of (after_offset (prod i os) o)) + OFFSET_MOST * (after_offset
      (prod i os) o).p ≤ OFFSET_MOST * P_OPENING
  unfolding sum_after
  now-snoc =
      let snoc = sum-snoc i os o f in
      let more = now_after (is_place (last_of i os) (place_of (after_offset (prod i os) o))) refl in
      omega (arith, snoc, more)

  pub all-snoc : (q : EpochScale) → sumat i (os ++ o ∷ []) q ≤ OFFSET_MOST * P_OPENING
  all-snoc q =
      let snoc = rises-snoc (start_words i) os o q in
      let more = all_after q (is_place (last_of i os) q) refl in
      omega (arith, snoc, more)
