-- How repeated squaring goes along the digits of the exponent, the lowest first.
use Rattle.std.proofs.Common.{◌≡◌, ◌≢◌, ℕ, suc, ◌+◌, ◌*◌, ◌/◌, ◌%◌, ◌^◌, ◌<◌, ◌≤◌, refl, ap, arith, sym, ◌∙◌, add-one}
use Rattle.std.proofs.Math.Nat.{div-one, pow-suc, lt-mul-div-succ}
use Rattle.std.proofs.lemmas.Nat.{shr-shr, pow_pos}
use Rattle.liq_num.specs.Power.{rounded_product, squared, digits_product}
use Rattle.liq_num.proofs.Digits.{squared-suc, digits_product-one, digits_product-zero, digits_product-enough}
use Rattle.liq_num.specs.declared.power.TheConstants.{ONE}

-- what the variables of the loop are after some turns, for a base x and an exponent n
pub record IsTurned (x n square product left : ℕ) : Type 0 where
  pub turns : ℕ
  pub square_is : square ≡ squared x turns
  pub product_is : product ≡ digits_product x n turns
  pub left_is : left ≡ n / 2 ^ turns

-- the same with the bounds that the products need
pub record IsWithinTurns (x n square product left : ℕ) : Type 0 where
  pub turned : IsTurned x n square product left
  pub square_within : square ≤ ONE
  pub product_within : product ≤ ONE
  pub some_left : 0 < left

-- half of what is left is left after one more place
half_shifted : (n k left : ℕ) → left ≡ n / 2 ^ k → left / 2 ≡ n / 2 ^ suc k
half_shifted n k left e = ap (λ v. v / 2) e ∙ (shr-shr n k 1 ∙ ap (λ j. n / 2 ^ j) (add-one k))

pub turned_first : (x n : ℕ) → IsTurned x n x ONE n
unfolding squared digits_product
turned_first x n = record { turns = 0; square_is = refl; product_is = refl; left_is = sym (div-one n) }

pub turned_odd : (x n s p l : ℕ) → IsTurned x n s p l → l % 2 ≡ 1
    → IsTurned x n (rounded_product s s) (rounded_product s p) (l / 2)
turned_odd x n s p l was odd =
    let digit : n / 2 ^ was.turns % 2 ≡ 1 = rw (← was.left_is) odd in
    let onto : rounded_product s p ≡ rounded_product (squared x was.turns) (digits_product x n was.turns) =
    ap (λ a. rounded_product a p) was.square_is ∙ ap (λ b. rounded_product (squared x was.turns) b) was.product_is in
    record {
      turns = suc was.turns;
      square_is = ap (λ r. rounded_product r r) was.square_is ∙ sym (squared-suc x was.turns);
      product_is = onto ∙ sym (digits_product-one x n was.turns digit);
      left_is = half_shifted n was.turns l was.left_is;
    }

pub turned_even : (x n s p l : ℕ) → IsTurned x n s p l → l % 2 ≢ 1 → IsTurned x n (rounded_product s s) p (l / 2)
turned_even x n s p l was even =
    let even_left : l % 2 ≡ 0 = omega arith in
    let digit : n / 2 ^ was.turns % 2 ≡ 0 = rw (← was.left_is) even_left in
    record {
      turns = suc was.turns;
      square_is = ap (λ r. rounded_product r r) was.square_is ∙ sym (squared-suc x was.turns);
      product_is = was.product_is ∙ sym (digits_product-zero x n was.turns digit);
      left_is = half_shifted n was.turns l was.left_is;
    }

-- once one is left, the last product takes in the highest digit
pub turned_last : (x n s p l : ℕ) → IsTurned x n s p l → l ≡ 1 → n < 2 ^ 30
    → rounded_product s p ≡ digits_product x n 30
turned_last x n s p l was last few =
    let t = was.turns in
    let one_left : n / 2 ^ t ≡ 1 = sym was.left_is ∙ last in
    let onto : rounded_product s p ≡ rounded_product (squared x t) (digits_product x n t) =
    ap (λ a. rounded_product a p) was.square_is ∙ ap (λ b. rounded_product (squared x t) b) was.product_is in
    let highest : rounded_product (squared x t) (digits_product x n t) ≡ digits_product x n (suc t) =
    sym (digits_product-one x n t (rw one_left refl)) in
    let below : n < 2 ^ t * (n / 2 ^ t + 1) = lt-mul-div-succ n (pow_pos t) in
    let ends : n < 2 ^ suc t = rw pow-suc (rw one_left at below) in
    onto ∙ (highest ∙ digits_product-enough x n (suc t) 30 ends few)
