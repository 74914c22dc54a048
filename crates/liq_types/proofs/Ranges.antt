-- The product stays within its range.
use Rattle.std.proofs.Common.{◌≡◌, ℕ, zero, suc, ◌+◌, ◌-◌, ◌*◌, ◌^◌, ◌≤◌, ◌<◌, Bool, true, false, cond, List, [], ◌∷◌, arith, refl, ap, sym, ◌∙◌, subst, nat_le, inl, inr}
use Rattle.std.specs.Prelude.{fold, ◌==◌}
use Rattle.std.specs.List.{AllByRecursion}
use Rattle.std.proofs.Math.Nat.{mul-le-mul_right, mul-le-mul_left, div-le_of_le-mul, div-lt_iff_lt-mul}
use Rattle.std.proofs.lemmas.Nat.{pow-add, le-div}
use Rattle.std.proofs.lemmas.Bool.{le-leb, leb-true, cases_lt}
use Rattle.std.proofs.lemmas.Bool.Decides.{nat_tests}
use Rattle.liq_num.specs.Quotient.{floor_of}
use Rattle.liq_types.specs.declared.amounts.TheConstants.{P_OPENING, P_LEAST, RISES_MOST}
use Rattle.liq_types.specs.Image.{Image}
use Rattle.liq_types.specs.Product.{ScaledProduct, IsWithinRange, TakesPartUpTo, STEPS_TRIED, opening_words, least_from, product_after, rise_of, after_offset, start_words, prod}
use Rattle.liq_types.specs.State.{PoolOffset}
use Rattle.liq_types.proofs.Least.{IsFirst, least_from-first}

times_some : (p rest : ℕ) → 1 ≤ rest → p ≤ p * rest
times_some p rest some =
    let more : 1 * p ≤ rest * p = mul-le-mul_right p some in
    omega arith

-- the most steps suffice
most_suffice : (p rest total : ℕ) → P_LEAST ≤ p → 1 ≤ rest → total ≤ 10 ^ (9 * RISES_MOST) → 0 < total
    → P_LEAST ≤ floor_of p (rest * 10 ^ (9 * RISES_MOST)) total
most_suffice p rest total low some limit pos =
    let many = times_some p rest some in
    let least : P_LEAST ≤ p * rest = omega arith in
    let large : 10 ^ (9 * RISES_MOST) * P_LEAST ≤ 10 ^ (9 * RISES_MOST) * (p * rest) =
    mul-le-mul_left (10 ^ (9 * RISES_MOST)) least in
    le-div 1000000000 (p * (rest * 10 ^ (9 * RISES_MOST))) total pos (omega (arith, large, limit))

-- with no step the product does not grow
unraised : (p rest total : ℕ) → p ≤ P_OPENING → rest ≤ total → floor_of p (rest * 1) total ≤ P_OPENING
unraised p rest total high within =
    let first : rest * p ≤ total * p = mul-le-mul_right p within in
    let second : p * total ≤ 1000000000000000000 * total = mul-le-mul_right total high in
    div-le_of_le-mul total (omega (arith, first, second))

-- a step from below the least does not pass the whole
raised : (p rest total power : ℕ) → 0 < total → floor_of p (rest * power) total < P_LEAST
    → floor_of p (rest * (power * 1000000000)) total ≤ P_OPENING
raised p rest total power pos low =
    let under : p * (rest * power) < 1000000000 * total = (div-lt_iff_lt-mul pos).0 low in
    div-le_of_le-mul total (omega (arith, under))

-- ---- the least rise of an offset that leaves a part of the pool

abbrev enough : ℕ → PoolOffset → ℕ → Bool
enough p o steps = nat_le P_LEAST (product_after p o steps)

pub least_rise : ℕ → PoolOffset → ℕ
least_rise p o = least_from (enough p o) 0 STEPS_TRIED

-- a limit that the most steps serve
module _ (most : ℕ) (served : most ≤ 10 ^ (9 * RISES_MOST)) where
  most_are_enough : (p : ℕ) (o : PoolOffset) → P_LEAST ≤ p → TakesPartUpTo most o → o.debt < o.total
      → enough p o RISES_MOST ≡ true
  most_are_enough p o low h less =
      le-leb P_LEAST (product_after p o RISES_MOST) (most_suffice p (o.total - o.debt) o.total low (omega arith)
      (omega (arith, h.limit, served)) (omega arith))

  pub first_rise : (p : ℕ) (o : PoolOffset) → P_LEAST ≤ p → TakesPartUpTo most o → o.debt < o.total
      → IsFirst (enough p o) 0 (least_rise p o)
  unfolding least_rise
  first_rise p o low h less = least_from-first (enough p o) 0 STEPS_TRIED RISES_MOST (omega arith)
      (most_are_enough p o low h less)

  passes_least : (p : ℕ) (o : PoolOffset) (n : ℕ) → enough p o n ≡ true → P_LEAST ≤ product_after p o n
  passes_least p o n pass = leb-true P_LEAST (product_after p o n) pass

  fails_least : (p : ℕ) (o : PoolOffset) (n : ℕ) → enough p o n ≡ false → product_after p o n < P_LEAST
  fails_least p o n fail = by (product_after p o n) fail where
    by : (m : ℕ) → nat_le P_LEAST m ≡ false → m < P_LEAST
    by m e = grind (arith, nat_tests, e)

  pub few_rises : (p : ℕ) (o : PoolOffset) → P_LEAST ≤ p → TakesPartUpTo most o → o.debt < o.total
      → least_rise p o ≤ RISES_MOST
  few_rises p o low h less =
      let first = first_rise p o low h less in
      elim (cases_lt RISES_MOST (least_rise p o)) [
        | inl more ↦ absurd (clash (first.first RISES_MOST (omega arith) more)
            (most_are_enough p o low h less))
        | inr few ↦ few
      ]
    where
      clash : enough p o RISES_MOST ≡ false → enough p o RISES_MOST ≡ true → ⊥
      clash fail pass = cc

  next_power : (j : ℕ) → 10 ^ (9 * suc j) ≡ 10 ^ (9 * j) * 1000000000
  next_power j = ap (λ n. 10 ^ n) (nine j) ∙ pow-add 10 (9 * j) 9 where
    nine : (i : ℕ) → 9 * suc i ≡ 9 * i + 9
    nine i = omega arith

  most_at : (p : ℕ) (o : PoolOffset) (n : ℕ) → p ≤ P_OPENING → TakesPartUpTo most o → o.debt < o.total
      → IsFirst (enough p o) 0 n → product_after p o n ≤ P_OPENING
  most_at p o zero high h less first = unraised p (o.total - o.debt) o.total high (omega arith)
  most_at p o (suc j) high h less first =
      let low = fails_least p o j (first.first j (omega arith) (omega arith)) in
      subst (λ power. floor_of p ((o.total - o.debt) * power) o.total ≤ P_OPENING) (sym (next_power j))
      (raised p (o.total - o.debt) o.total (10 ^ (9 * j)) (omega arith) low)

  -- ---- one offset

  pub offset_within : (w : ScaledProduct) (o : PoolOffset) → IsWithinRange w → TakesPartUpTo most o
      → IsWithinRange (after_offset w o)
  unfolding least_rise
  offset_within w o within h = by (o.debt == o.total) refl where
    left : (b : Bool) → (o.debt == o.total) ≡ b → b ≡ false → o.debt < o.total
    left b e fail = grind (arith, nat_tests, e, fail, h.within)

    by : (b : Bool) → (o.debt == o.total) ≡ b
        → IsWithinRange (cond b (record opening_words { epoch = w.epoch + 1 })
        (record {
          p = product_after w.p o (cond b 0 (least_rise w.p o));
          scale = w.scale + cond b 0 (least_rise w.p o);
          epoch = w.epoch;
        }))
    by true e = record { least = omega arith; most = omega arith }
    by false e =
        let less = left false e refl in
        let first = first_rise w.p o within.least h less in
        record {
          least = passes_least w.p o (least_rise w.p o) first.passes;
          most = most_at w.p o (least_rise w.p o) within.most h less first;
        }

  pub rise_few : (w : ScaledProduct) (o : PoolOffset) → IsWithinRange w → TakesPartUpTo most o
      → rise_of w.p o ≤ RISES_MOST
  unfolding least_rise
  rise_few w o within h = by (o.debt == o.total) refl where
    left : (b : Bool) → (o.debt == o.total) ≡ b → b ≡ false → o.debt < o.total
    left b e fail = grind (arith, nat_tests, e, fail, h.within)

    by : (b : Bool) → (o.debt == o.total) ≡ b → cond b 0 (least_rise w.p o) ≤ RISES_MOST
    by true e = omega arith
    by false e = few_rises w.p o within.least h (left false e refl)

  pub rise_no_more : (w : ScaledProduct) (o : PoolOffset) → IsWithinRange w → TakesPartUpTo most o → (steps : ℕ)
      → steps < rise_of w.p o → product_after w.p o steps < P_LEAST
  unfolding least_rise
  rise_no_more w o within h steps = by (o.debt == o.total) refl where
    left : (b : Bool) → (o.debt == o.total) ≡ b → b ≡ false → o.debt < o.total
    left b e fail = grind (arith, nat_tests, e, fail, h.within)

    by : (b : Bool) → (o.debt == o.total) ≡ b → steps < cond b 0 (least_rise w.p o) → product_after w.p o steps
        < P_LEAST
    by true e few = absurd (omega arith)
    by false e few = fails_least w.p o steps ((first_rise w.p o within.least h (left false e refl)).first steps
        (omega arith) few)

  -- ---- all of a list

  offsets_within : (w : ScaledProduct) (offsets : List PoolOffset) → IsWithinRange w
      → AllByRecursion (TakesPartUpTo most) offsets → IsWithinRange (fold after_offset w offsets)
  offsets_within w [] within h = within
  offsets_within w (o ∷ os) within h = offsets_within (after_offset w o) os (offset_within w o within h.0) h.1

  pub prod_within : (i : Image) (offsets : List PoolOffset) → IsWithinRange (start_words i)
      → AllByRecursion (TakesPartUpTo most) offsets → IsWithinRange (prod i offsets)
  prod_within i offsets within h = offsets_within (start_words i) offsets within h
