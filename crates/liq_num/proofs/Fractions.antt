-- Ratios in the order of fractions.
use Rattle.std.proofs.Common.{◌≡◌, ℕ, ◌+◌, ◌*◌, ◌/◌, ◌<◌, ◌≤◌, inl, inr, refl, ap, arith, sym, ◌∙◌, lit<}
use Rattle.std.specs.Ordering.{nat_cmp, MatchOrdering}
use Rattle.std.specs.Cmp.{nat_cmp_is}
use Rattle.std.specs.declared.cmp.Ordering.{Ordering}
use Rattle.std.specs.declared.cmp.Ordering.TheVariants.{Less, Equal, Greater}
use Rattle.std.proofs.lemmas.Cmp.{ranked}
use Rattle.std.proofs.Math.Nat.{mul-lt-mul_of_pos_left, lt_of_mul-lt-mul_right, mul-mul-mul_comm, mul_comm, mul-pos, le_of_lt, mul-le-mul_right, mul-lt-mul_of_pos_right, div-mul-le_self, lt-div-mul-add, div-eq_of_eq-mul_left}
use Rattle.std.proofs.lemmas.Bool.{cases_lt}
use Rattle.liq_num.specs.Ratio.{ratio_order, IsBelow}

scaled_match : (s a b : ℕ) (r : Ordering) → 0 < s → MatchOrdering r (a < b) (a ≡ b) (b < a)
    → MatchOrdering r (s * a < s * b) (s * a ≡ s * b) (s * b < s * a)
scaled_match s a b Less p h = mul-lt-mul_of_pos_left h p
scaled_match s a b Equal p h = ap (λ n. s * n) h
scaled_match s a b Greater p h = mul-lt-mul_of_pos_left h p

-- numbers compare as their multiples do
nat_cmp-scaled : (s a b : ℕ) → 0 < s → nat_cmp (s * a) (s * b) ≡ nat_cmp a b
nat_cmp-scaled s a b p =
    sym (nat_cmp_is (s * a) (s * b) (nat_cmp a b) (scaled_match s a b (nat_cmp a b) p (ranked a b (nat_cmp a b) refl)))

pub ratio_order-expanded : (c1 d1 c2 d2 k m : ℕ) → 0 < k → 0 < m → ratio_order (k * c1) (k * d1) (m * c2) (m * d2)
    ≡ ratio_order c1 d1 c2 d2
ratio_order-expanded c1 d1 c2 d2 k m p q =
    let one : k * c1 * (m * d2) ≡ k * m * (c1 * d2) = mul-mul-mul_comm k c1 m d2 in
    let two : m * c2 * (k * d1) ≡ k * m * (c2 * d1) = rw (← mul_comm k m) at (mul-mul-mul_comm m c2 k d1) in
    rw (one, two) (nat_cmp-scaled (k * m) (c1 * d2) (c2 * d1) (mul-pos p q))

pub ratio_order-at_one_debt : (c1 c2 d : ℕ) → 0 < d → ratio_order c1 d c2 d ≡ nat_cmp c1 c2
ratio_order-at_one_debt c1 c2 d p = rw (mul_comm c1 d, mul_comm c2 d) (nat_cmp-scaled d c1 c2 p)

pub IsBelow_trans : (c1 d1 c2 d2 c3 d3 : ℕ) → IsBelow c1 d1 c2 d2 → IsBelow c2 d2 c3 d3 → IsBelow c1 d1 c3 d3
IsBelow_trans c1 d1 c2 d2 c3 d3 h g =
    let some : 0 < d1 =
    elim (cases_lt 0 d1) [
      | inl pos ↦ pos
      | inr low ↦
          let none : d1 ≡ 0 = omega arith in
          let over : c1 * d2 < c2 * 0 = rw none at h in
          absurd (omega arith)
    ] in
    let first : c1 * d2 * d3 ≤ c2 * d1 * d3 = mul-le-mul_right d3 (le_of_lt h) in
    let second : c2 * d3 * d1 < c3 * d2 * d1 = mul-lt-mul_of_pos_right g some in
    lt_of_mul-lt-mul_right d2 (omega arith)

pub ratio_order-equal_alike : (c1 d1 c2 d2 c3 d3 : ℕ) → 0 < d1 → 0 < d2 → ratio_order c1 d1 c2 d2 ≡ Equal
    → ratio_order c1 d1 c3 d3 ≡ ratio_order c2 d2 c3 d3
ratio_order-equal_alike c1 d1 c2 d2 c3 d3 p q e =
    let same : c1 * d2 ≡ c2 * d1 = ranked (c1 * d2) (c2 * d1) Equal (sym e) in
    let turned : d2 * c1 ≡ d1 * c2 = omega arith in
    let debts : d2 * d1 ≡ d1 * d2 = mul_comm d2 d1 in
    sym (ratio_order-expanded c1 d1 c3 d3 d2 1 q (lit< tt))
    ∙ (ap (λ c. ratio_order c (d2 * d1) (1 * c3) (1 * d3)) turned
    ∙ (ap (λ d. ratio_order (d1 * c2) d (1 * c3) (1 * d3)) debts
    ∙ ratio_order-expanded c2 d2 c3 d3 d1 1 p (lit< tt)))

pub IsBelow_shown : (c1 d1 c2 d2 s : ℕ) → 0 < d1 → 0 < d2 → c1 * s / d1 < c2 * s / d2 → IsBelow c1 d1 c2 d2
IsBelow_shown c1 d1 c2 d2 s p q h =
    let first : c1 * s < (c1 * s / d1 + 1) * d1 = omega (arith, lt-div-mul-add {a = c1 * s} p) in
    let second : c2 * s / d2 * d2 ≤ c2 * s = div-mul-le_self (c2 * s) d2 in
    let over : (c1 * s / d1 + 1) * d1 * d2 ≤ c2 * s / d2 * d1 * d2 =
    mul-le-mul_right d2 (mul-le-mul_right d1 (omega arith)) in
    let left : c1 * s * d2 < (c1 * s / d1 + 1) * d1 * d2 = mul-lt-mul_of_pos_right first q in
    let right : c2 * s / d2 * d2 * d1 ≤ c2 * s * d1 = mul-le-mul_right d1 second in
    lt_of_mul-lt-mul_right s (omega arith)

pub IsBelow_at_debts : (c1 d1 c2 d2 : ℕ) → 0 < d1 → 0 < d2 → IsBelow c1 d1 c2 d2
    → c1 * (d1 * d2) / d1 < c2 * (d1 * d2) / d2
IsBelow_at_debts c1 d1 c2 d2 p q h =
    let first : c1 * (d1 * d2) / d1 ≡ c1 * d2 = div-eq_of_eq-mul_left p (omega arith) in
    let second : c2 * (d1 * d2) / d2 ≡ c2 * d1 = div-eq_of_eq-mul_left q (omega arith) in
    rw (first, second) h
