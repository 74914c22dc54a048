-- What an offset may cost an account, in numbers that fit.
use Rattle.std.proofs.Common.{◌≡◌, ℕ, ◌+◌, ◌*◌, ◌^◌, ◌<◌, ◌≤◌, true, cond, ap, sym, ◌∙◌, arith, inl, inr}
use Rattle.std.specs.Prelude.{◌==◌, ◌&&◌, not}
use Rattle.std.proofs.Math.Nat.{mul-le-mul_right, pow-le-pow_right}
use Rattle.std.proofs.lemmas.Bool.{cases_lt}
use Rattle.std.proofs.lemmas.Bool.Decides.{nat_tests}
use Rattle.std.proofs.lemmas.Grind.{div_ceil_times}
use Rattle.liq_num.specs.Quotient.{ceiling_of}

pub ceiling_one : (a c : ℕ) → 1 ≤ a → a ≤ c → ceiling_of a 1 c ≡ 1
ceiling_one a c some low = by (ceiling_of a 1 c) (div_ceil_times (a * 1) c (omega arith)) where
  by : (q : ℕ) → (a * 1 ≤ q * c) × (q * c < a * 1 + c) → q ≡ 1
  by q h = elim (cases_lt 1 q) [
    | inl more ↦ let twice : 2 * c ≤ q * c = mul-le-mul_right c more in absurd (omega (arith, h.1, twice))
    | inr few ↦ elim (cases_lt 0 q) [
      | inl one ↦ omega arith
      | inr none ↦ let zero_times : q * c ≤ 0 * c = mul-le-mul_right c none in absurd (omega (arith, h.0, zero_times))
    ]
  ]

-- far above the own operation it is one
pub cost_one : (amount epoch own_epoch rise : ℕ) → 1 ≤ amount → amount < 2 ^ 64 → epoch ≡ own_epoch → 3 ≤ rise
    → 1 ≡ cond (not (amount == 0) && epoch == own_epoch) (ceiling_of amount 1 (10 ^ (9 * rise))) 0
cost_one amount epoch own_epoch rise some low same far =
    let test : (not (amount == 0) && epoch == own_epoch) ≡ true = grind (arith, nat_tests, some, same) in
    let high : 10 ^ 27 ≤ 10 ^ (9 * rise) = pow-le-pow_right {n = 10} (omega arith) {i = 27} {j = 9 * rise}
    (omega arith) in
    sym (ap (λ b. cond b (ceiling_of amount 1 (10 ^ (9 * rise))) 0) test
    ∙ ceiling_one amount (10 ^ (9 * rise)) some (omega arith))
