-- The steps that an offset tries, from none on, until its product is no longer too little.
use Rattle.std.proofs.Common.{◌≡◌, ℕ, zero, suc, ◌+◌, ◌-◌, ◌*◌, ◌/◌, ◌^◌, ◌<◌, ◌≤◌, Bool, true, false, cond, nat_le, refl, ap, ◌∙◌, subst, arith, inl, inr}
use Rattle.std.specs.Prelude.{◌==◌, IsTrue}
use Rattle.std.proofs.Math.Nat.{div-lt_iff_lt-mul, mul-le-mul_left, mul-le-mul_right}
use Rattle.std.proofs.lemmas.Bool.{cases_lt}
use Rattle.std.proofs.lemmas.Bool.Decides.{nat_tests}
use Rattle.std.proofs.lemmas.Nat.{pow-add}
use Rattle.liq_types.specs.declared.amounts.TheConstants.{LIM, P_LEAST, P_OPENING, RISES_MOST}
use Rattle.liq_types.specs.Product.{ScaledProduct, IsWithinRange, TakesPart, TakesPartUpTo, STEPS_TRIED, least_from, product_after, rise_of}
use Rattle.liq_types.specs.Soundness.{is_product}
use Rattle.liq_types.specs.State.{PoolOffset}
use Rattle.liq_types.proofs.Ranges.{offset_within, rise_few, rise_no_more}
use Rattle.liq_types.proofs.Sums.{leaves_part}
use Rattle.liq_stability.specs.declared.words.PoolWords.{PoolWords}
use Rattle.liq_stability.specs.Words.{words_in, offset_in}
use Rattle.liq_stability.proofs.Tests.{product_in}

-- ---- what is asked of an offset

pub range_in : (w : PoolWords) → IsTrue (is_product w.p) → IsWithinRange (words_in w)
range_in w h = let k = product_in w.p h in record { least = k.least; most = k.most }

pub takes_in : (w : PoolWords) (debt coll : ℕ) → 1 ≤ debt → debt ≤ w.total → w.total ≤ LIM
    → TakesPart (offset_in w debt coll)
takes_in w debt coll some within limit = record { some = some; within = within; limit = limit }

-- ---- step by step

-- what is divided after so many steps, which are no more than it takes
pub record IsTried (p : ℕ) (o : PoolOffset) (part rise : ℕ) : Type 0 where
  pub part_is : part ≡ p * ((o.total - o.debt) * 10 ^ (9 * rise))
  pub within : part ≤ P_OPENING * o.total
  pub few : rise ≤ rise_of p o

next_power : (j : ℕ) → 10 ^ (9 * (j + 1)) ≡ 10 ^ (9 * j) * 1000000000
next_power j = ap (λ n. 10 ^ n) (nine j) ∙ pow-add 10 (9 * j) 9 where
  nine : (i : ℕ) → 9 * (i + 1) ≡ 9 * i + 9
  nine i = omega arith

-- no number before the least one passes, whether or not any does
fails_before : (test : ℕ → Bool) (k more i : ℕ) → k ≤ i → i < least_from test k more → test i ≡ false
unfolding least_from
fails_before test k zero i from less = absurd (omega arith)
fails_before test k (suc more) i from less =
    by (test k) refl less (λ later few. fails_before test (k + 1) more i later few) where
      by : (b : Bool) → test k ≡ b → i < cond b k (least_from test (k + 1) more)
          → (k + 1 ≤ i → i < least_from test (k + 1) more → test i ≡ false) → test i ≡ false
      by true is few more_fail = absurd (omega arith)
      by false is few more_fail = elim (cases_lt k i) [
        | inl later ↦ more_fail (omega arith) few
        | inr here ↦ at (omega arith)
      ] where
        at : k ≡ i → test i ≡ false
        at e = subst (λ j. test j ≡ false) e is

-- what is divided for a rise, up to the one that suffices, is below the whole of all that the pool has
module _ (p : ℕ) (o : PoolOffset) (pos : 0 < o.total) where
  low_before : (before : ℕ) → before < rise_of p o → product_after p o before < P_LEAST
  low_before before few = by (o.debt == o.total) few where
    low : (n : ℕ) → nat_le P_LEAST n ≡ false → n < P_LEAST
    low n e = grind (arith, nat_tests, e)

    by : (b : Bool) → before < cond b 0 (least_from (λ steps. nat_le P_LEAST (product_after p o steps)) 0 STEPS_TRIED)
        → product_after p o before < P_LEAST
    by true less = absurd (omega arith)
    by false less = low (product_after p o before) (fails_before (λ steps. nat_le P_LEAST (product_after p o steps)) 0
        STEPS_TRIED before (omega arith) less)

  raised_next : (before : ℕ) → before < rise_of p o → p * ((o.total - o.debt) * 10 ^ (9 * (before + 1)))
      < P_OPENING * o.total
  raised_next before few =
      let low : p * ((o.total - o.debt) * 10 ^ (9 * before)) < P_LEAST * o.total =
      (div-lt_iff_lt-mul pos).0 (low_before before few) in
      let more : p * ((o.total - o.debt) * 10 ^ (9 * (before + 1)))
      ≡ p * ((o.total - o.debt) * (10 ^ (9 * before) * 1000000000)) = ap (λ n. p * ((o.total - o.debt) * n))
      (next_power before) in
      omega (arith, low, more)

  pub each_below : (rise : ℕ) → 1 ≤ rise → rise ≤ rise_of p o → p * ((o.total - o.debt) * 10 ^ (9 * rise))
      < P_OPENING * o.total
  each_below rise some few =
      let is : rise - 1 + 1 ≡ rise = omega arith in
      subst (λ n. p * ((o.total - o.debt) * 10 ^ (9 * n)) < P_OPENING * o.total) is (raised_next (rise - 1)
      (omega arith))

-- the same of a pool within a limit
pub raised_below : (most : ℕ) → most ≤ 10 ^ (9 * RISES_MOST) → (w : ScaledProduct) (o : PoolOffset) → IsWithinRange w
    → TakesPartUpTo most o → o.debt < o.total → (rise : ℕ) → 1 ≤ rise → rise ≤ rise_of w.p o
    → w.p * ((o.total - o.debt) * 10 ^ (9 * rise)) < P_OPENING * o.total
raised_below most served w o range takes less = each_below w.p o (omega (arith, less))

module _ (w : ScaledProduct) (o : PoolOffset) (range : IsWithinRange w) (takes : TakesPart o) (less : o.debt
    < o.total) where
  pub first_try : IsTried w.p o (w.p * (o.total - o.debt)) 0
  first_try =
      record {
        part_is = omega arith;
        within = small (w.p) (o.total - o.debt) range.most (omega arith);
        few = omega arith;
      }
    where
      small : (p left : ℕ) → p ≤ P_OPENING → left ≤ o.total → p * left ≤ P_OPENING * o.total
      small p left a b =
          let first : p * left ≤ P_OPENING * left = mul-le-mul_right left a in
          let second : P_OPENING * left ≤ P_OPENING * o.total = mul-le-mul_left P_OPENING b in
          omega (arith, first, second)

  passes : P_LEAST ≤ product_after w.p o (rise_of w.p o)
  passes =
      let part = leaves_part w o takes.within (away (o.debt == o.total) refl) in
      subst (λ n. P_LEAST ≤ n) part.p (offset_within LIM (omega arith) w o range takes).least
    where
      away : (b : Bool) → (o.debt == o.total) ≡ b → (o.debt == o.total) ≡ false
      away true e = absurd (omega (arith, less, same)) where
        same : o.debt ≡ o.total
        same = grind (arith, nat_tests, e)
      away false e = e

  pub few_tries : rise_of w.p o ≤ RISES_MOST
  few_tries = rise_few LIM (omega arith) w o range takes

  pub quotient : (part rise : ℕ) → IsTried w.p o part rise → part / o.total ≡ product_after w.p o rise
  quotient part rise h = ap (λ n. n / o.total) h.part_is

  pub next_try : (part rise : ℕ) → IsTried w.p o part rise → part / o.total < P_LEAST
      → IsTried w.p o (part * 1000000000) (rise + 1)
  next_try part rise h low =
      let pos : 0 < o.total = omega (arith, less) in
      let under : part < P_LEAST * o.total = (div-lt_iff_lt-mul pos).0 low in
      record {
        part_is =
            let more : w.p * ((o.total - o.debt) * 10 ^ (9 * (rise + 1)))
            ≡ w.p * ((o.total - o.debt) * (10 ^ (9 * rise) * 1000000000)) = ap (λ n. w.p * ((o.total - o.debt) * n))
            (next_power rise) in
            omega (arith, h.part_is, more);
        within = omega (arith, under);
        few = elim (cases_lt rise (rise_of w.p o)) [
          | inl early ↦ omega (arith, early)
          | inr late ↦
              let same : rise_of w.p o ≡ rise = omega (arith, late, h.few) in
              let enough : P_LEAST ≤ product_after w.p o rise = subst (λ k. P_LEAST ≤ product_after w.p o k) same passes
              in
              absurd (omega (arith, enough, low, quotient part rise h))
        ];
      }

  pub last_try : (part rise : ℕ) → IsTried w.p o part rise → P_LEAST ≤ part / o.total → rise ≡ rise_of w.p o
  last_try part rise h high =
      elim (cases_lt rise (rise_of w.p o)) [
        | inl early ↦ absurd (omega (
          arith,
          high,
          quotient part rise h,
          rise_no_more LIM (omega arith) w o range takes rise early,
        ))
        | inr late ↦ omega (arith, late, h.few)
      ]
