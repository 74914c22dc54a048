-- Powers along the binary digits of the exponent.
use Rattle.std.proofs.Common.{◌≡◌, ℕ, zero, suc, ◌+◌, ◌-◌, ◌*◌, ◌/◌, ◌%◌, ◌^◌, ◌<◌, ◌≤◌, ◌⊎◌, inl, inr, refl, ap, arith, sym, ◌∙◌, min, lit<, lit≤, add-one, add-zero}
use Rattle.std.proofs.Math.Nat.{div-one, div-eq_of_lt, pow-le-pow_right, pow-suc, le_trans, min-eq_left, min-eq_right, mul-div-mul_left, add-mul-div_right, pow-succ'}
use Rattle.std.proofs.lemmas.Nat.{pow_pos, pow_below, div-mul-add}
use Rattle.std.proofs.lemmas.Bool.{cases_lt}
use Rattle.liq_num.specs.Power.{rounded_product, squared, digits_product, power_of}
use Rattle.liq_num.specs.declared.power.TheConstants.{ONE, HALF, MOST_MINUTES}

-- ---- products

rounded_product-le : (x y : ℕ) → x ≤ ONE → rounded_product x y ≤ y
rounded_product-le x y h = grind arith

rounded_product-mono : (x y p q : ℕ) → x ≤ p → y ≤ q → rounded_product x y ≤ rounded_product p q
rounded_product-mono x y p q h g = grind arith

pub rounded_product-whole : (x : ℕ) → rounded_product x ONE ≡ x
rounded_product-whole x = div-mul-add x ONE HALF (lit< tt)

-- ---- one more place

pub squared-suc : (x k : ℕ) → squared x (suc k) ≡ rounded_product (squared x k) (squared x k)
unfolding squared
squared-suc x k = refl

pub digits_product-one : (x n k : ℕ) → n / 2 ^ k % 2 ≡ 1 → digits_product x n (suc k)
    ≡ rounded_product (squared x k) (digits_product x n k)
unfolding digits_product
digits_product-one x n k e = rw e refl

pub digits_product-zero : (x n k : ℕ) → n / 2 ^ k % 2 ≡ 0 → digits_product x n (suc k) ≡ digits_product x n k
unfolding digits_product
digits_product-zero x n k e = rw e refl

-- a digit is 0 or 1
digit_cases : (m : ℕ) → (m % 2 ≡ 0) ⊎ (m % 2 ≡ 1)
digit_cases m = elim (cases_lt (m % 2) 1) [ inl h ↦ inl (omega arith) | inr h ↦ inr (omega arith) ]

-- one more place of each of two powers, where digits, squares and lower products agree
next_place : (x z m n j k : ℕ) → m / 2 ^ j % 2 ≡ n / 2 ^ k % 2 → squared x j ≡ squared z k
    → digits_product x m j ≡ digits_product z n k → digits_product x m (suc j) ≡ digits_product z n (suc k)
next_place x z m n j k digit square lower =
    elim (digit_cases (n / 2 ^ k)) [
      | inl none ↦ digits_product-zero x m j (digit ∙ none) ∙ (lower ∙ sym (digits_product-zero z n k none))
      | inr some ↦
          digits_product-one x m j (digit ∙ some)
          ∙ (ap (λ s. rounded_product s (digits_product x m j)) square
          ∙ (ap (λ r. rounded_product (squared z k) r) lower ∙ sym (digits_product-one z n k some)))
    ]

-- ---- places past the last digit

digits_product-past : (x n k j : ℕ) → n < 2 ^ k → digits_product x n (j + k) ≡ digits_product x n k
digits_product-past x n k zero h = ap (λ i. digits_product x n i) (omega arith)
digits_product-past x n k (suc j) h =
    let further : 2 ^ k ≤ 2 ^ (j + k) = pow-le-pow_right (omega arith) (omega arith) in
    let none : n / 2 ^ (j + k) ≡ 0 = div-eq_of_lt (omega arith) in
    let next : suc j + k ≡ suc (j + k) = omega arith in
    ap (λ i. digits_product x n i) next ∙ (digits_product-zero x n (j + k) (rw none refl)
    ∙ digits_product-past x n k j h)

-- enough places give the same, however many they are
pub digits_product-enough : (x n j k : ℕ) → n < 2 ^ j → n < 2 ^ k → digits_product x n j ≡ digits_product x n k
digits_product-enough x n j k h g =
    elim (cases_lt j k) [
      | inl before ↦
          let whole : k - j + j ≡ k = omega arith in
          sym (digits_product-past x n j (k - j) h) ∙ ap (λ i. digits_product x n i) whole
      | inr after ↦
          let whole : j - k + k ≡ j = omega arith in
          sym (ap (λ i. digits_product x n i) whole) ∙ digits_product-past x n k (j - k) g
    ]

-- so up to the most minutes the power is the product over any number of places that is enough
power_of-places : (x n k : ℕ) → n ≤ MOST_MINUTES → n < 2 ^ k → power_of x n ≡ digits_product x n k
unfolding power_of
power_of-places x n k most h =
    let uncapped : min n MOST_MINUTES ≡ n = min-eq_left most in
    rw uncapped (digits_product-enough x n 30 k (omega arith) h)

-- ---- a digit on top

-- a digit is not changed by higher ones
same_digit : (a n k : ℕ) → (n + a * 2 * 2 ^ k) / 2 ^ k % 2 ≡ n / 2 ^ k % 2
same_digit a n k = rw (add-mul-div_right n (a * 2) (pow_pos k)) (omega arith)

-- so the product over the lower places does not see what stands above them
digits_product-lower : (x a n k : ℕ) → digits_product x (n + a * 2 ^ k) k ≡ digits_product x n k
unfolding digits_product
digits_product-lower x a n zero = refl
digits_product-lower x a n (suc k) =
    let moved : n + a * 2 ^ suc k ≡ n + a * 2 * 2 ^ k = rw pow-suc (omega arith) in
    ap (λ m. digits_product x m (suc k)) moved
    ∙ next_place x x (n + a * 2 * 2 ^ k) n k k (same_digit a n k) refl (digits_product-lower x (a * 2) n k)

digits_product-top : (x n k : ℕ) → n < 2 ^ k → digits_product x (2 ^ k + n) (suc k)
    ≡ rounded_product (squared x k) (digits_product x n k)
digits_product-top x n k h =
    let moved : 2 ^ k + n ≡ n + 1 * 2 ^ k = omega arith in
    let highest : (n + 1 * 2 ^ k) / 2 ^ k ≡ n / 2 ^ k + 1 = add-mul-div_right n 1 (pow_pos k) in
    let alone : n / 2 ^ k ≡ 0 = div-eq_of_lt h in
    ap (λ m. digits_product x m (suc k)) moved
    ∙ (digits_product-one x (n + 1 * 2 ^ k) k (rw (highest, alone) refl)
    ∙ ap (λ r. rounded_product (squared x k) r) (digits_product-lower x 1 n k))

digits_product-none : (x k : ℕ) → digits_product x 0 k ≡ ONE
unfolding digits_product
digits_product-none x k = ap (λ i. digits_product x 0 i) (sym (add-zero k)) ∙ digits_product-past x 0 0 k (lit< tt)

power_of-digit : (x k : ℕ) → 2 ^ k ≤ MOST_MINUTES → power_of x (2 ^ k) ≡ squared x k
power_of-digit x k most =
    let below : 2 ^ k < 2 ^ suc k = pow_below k (suc k) (omega arith) in
    power_of-places x (2 ^ k) (suc k) most below
    ∙ (ap (λ m. digits_product x m (suc k)) (sym (add-zero (2 ^ k)))
    ∙ (digits_product-top x 0 k (pow_pos k)
    ∙ (ap (λ r. rounded_product (squared x k) r) (digits_product-none x k) ∙ rounded_product-whole (squared x k))))

pub power_of-next_digit : (x k : ℕ) → 2 ^ (k + 1) ≤ MOST_MINUTES → power_of x (2 ^ (k + 1))
    ≡ rounded_product (power_of x (2 ^ k)) (power_of x (2 ^ k))
power_of-next_digit x k most =
    let here : 2 ^ k ≤ 2 ^ (k + 1) = pow-le-pow_right (lit< tt) (omega arith) in
    power_of-digit x (k + 1) most
    ∙ (ap (λ i. squared x i) (add-one k)
    ∙ (squared-suc x k ∙ ap (λ r. rounded_product r r) (sym (power_of-digit x k (le_trans here most)))))

pub power_of-digit_on_top : (x k n : ℕ) → n < 2 ^ k → 2 ^ k + n ≤ MOST_MINUTES
    → power_of x (2 ^ k + n) ≡ rounded_product (power_of x (2 ^ k)) (power_of x n)
power_of-digit_on_top x k n h most =
    let below : 2 ^ k + n < 2 ^ suc k = rw pow-suc (omega arith) in
    let top : power_of x (2 ^ k) ≡ squared x k = power_of-digit x k (omega arith) in
    let rest : power_of x n ≡ digits_product x n k = power_of-places x n k (omega arith) h in
    power_of-places x (2 ^ k + n) (suc k) most below
    ∙ (digits_product-top x n k h
    ∙ (ap (λ r. rounded_product r (digits_product x n k)) (sym top)
    ∙ ap (λ r. rounded_product (power_of x (2 ^ k)) r) (sym rest)))

-- ---- a doubled exponent

squared-first : (x k : ℕ) → squared x (suc k) ≡ squared (rounded_product x x) k
unfolding squared
squared-first x zero = refl
squared-first x (suc k) =
    squared-suc x (suc k) ∙ (ap (λ r. rounded_product r r) (squared-first x k)
    ∙ sym (squared-suc (rounded_product x x) k))

digits_product-doubled : (x n k : ℕ) → digits_product x (2 * n) (suc k) ≡ digits_product (rounded_product x x) n k
unfolding digits_product
digits_product-doubled x n zero =
    let even : 2 * n / 2 ^ 0 % 2 ≡ 0 = rw (div-one (2 * n)) (omega arith) in
    digits_product-zero x (2 * n) 0 even
digits_product-doubled x n (suc k) =
    let halved : 2 * n / 2 ^ suc k ≡ n / 2 ^ k = rw (pow-succ' 2 k) (mul-div-mul_left n (2 ^ k) (lit< tt)) in
    next_place x (rounded_product x x) (2 * n) n (suc k) k (ap (λ q. q % 2) halved) (squared-first x k)
    (digits_product-doubled x n k)

pub power_of-doubled : (x n : ℕ) → 2 * n ≤ MOST_MINUTES → power_of x (2 * n) ≡ power_of (rounded_product x x) n
power_of-doubled x n most =
    power_of-places x (2 * n) 31 most (omega arith)
    ∙ (digits_product-doubled x n 30 ∙ sym (power_of-places (rounded_product x x) n 30 (omega arith) (omega arith)))

pub power_of-capped : (x n : ℕ) → MOST_MINUTES ≤ n → power_of x n ≡ power_of x MOST_MINUTES
unfolding power_of
power_of-capped x n most = rw (min-eq_right most) refl

-- ---- bounds

squared-le : (x k : ℕ) → x ≤ ONE → squared x k ≤ ONE
unfolding squared
squared-le x zero h = h
squared-le x (suc k) h =
    let s = squared x k in
    let was : s ≤ ONE = squared-le x k h in
    rw (squared-suc x k) (le_trans (rounded_product-le s s was) was)

digits_product-le : (x n k : ℕ) → x ≤ ONE → digits_product x n k ≤ ONE
unfolding digits_product
digits_product-le x n zero h = lit≤ tt
digits_product-le x n (suc k) h =
    let was : digits_product x n k ≤ ONE = digits_product-le x n k h in
    elim (digit_cases (n / 2 ^ k)) [
      | inl none ↦ rw (digits_product-zero x n k none) was
      | inr some ↦ rw (digits_product-one x n k some) (le_trans (rounded_product-le (squared x k) (digits_product x n k)
          (squared-le x k h)) was)
    ]

pub power_of-le : (x n : ℕ) → x ≤ ONE → power_of x n ≤ ONE
unfolding power_of
power_of-le x n h = digits_product-le x (min n MOST_MINUTES) 30 h

squared-mono : (x p k : ℕ) → x ≤ p → squared x k ≤ squared p k
unfolding squared
squared-mono x p zero h = h
squared-mono x p (suc k) h =
    let was : squared x k ≤ squared p k = squared-mono x p k h in
    rw (squared-suc x k, squared-suc p k) (rounded_product-mono (squared x k) (squared x k) (squared p k)
    (squared p k) was was)

digits_product-mono : (x p n k : ℕ) → x ≤ p → digits_product x n k ≤ digits_product p n k
unfolding digits_product
digits_product-mono x p n zero h = lit≤ tt
digits_product-mono x p n (suc k) h =
    let was : digits_product x n k ≤ digits_product p n k = digits_product-mono x p n k h in
    elim (digit_cases (n / 2 ^ k)) [
      | inl none ↦ rw (digits_product-zero x n k none, digits_product-zero p n k none) was
      | inr some ↦
          rw (digits_product-one x n k some, digits_product-one p n k some)
          (rounded_product-mono (squared x k) (digits_product x n k) (squared p k) (digits_product p n k)
          (squared-mono x p k h) was)
    ]

pub power_of-mono : (x p n : ℕ) → x ≤ p → power_of x n ≤ power_of p n
unfolding power_of
power_of-mono x p n h = digits_product-mono x p (min n MOST_MINUTES) 30 h
