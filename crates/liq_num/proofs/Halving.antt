-- How often a number is halved until no more than 1 is left.
use Rattle.std.proofs.Common.{◌≡◌, ℕ, zero, suc, ◌+◌, ◌/◌, ◌^◌, ◌<◌, ◌≤◌, refl, ap, arith, sym, ◌∙◌, true, false, nat_lt, add-one, inl, inr}
use Rattle.std.proofs.Math.Nat.{pow-suc}
use Rattle.std.specs.Prelude.{if◌then◌else◌}
use Rattle.std.proofs.lemmas.Bool.{cases_lt}
use Rattle.std.proofs.lemmas.Bool.Decides.{nat_tests}

-- how many of at most k halvings it takes until no more than 1 is left of n
halvings : ℕ → ℕ → ℕ
halvings n zero = 0
halvings n (suc k) = if nat_lt 1 n then suc (halvings (n / 2) k) else 0

-- how many halvings it takes for a u64: the turns of repeated squaring
pub turns_of : ℕ → ℕ
turns_of n = halvings n 64

halvings-more : (n k : ℕ) → 1 < n → halvings n (suc k) ≡ suc (halvings (n / 2) k)
unfolding halvings
halvings-more n k h = let above : nat_lt 1 n ≡ true = grind (arith, nat_tests) in rw above refl

halvings-ended : (n k : ℕ) → n ≤ 1 → halvings n k ≡ 0
unfolding halvings
halvings-ended n zero h = refl
halvings-ended n (suc k) h = let low : nat_lt 1 n ≡ false = grind (arith, nat_tests) in rw low refl

-- a number of k digits needs no more than k halvings
halvings-enough : (n k : ℕ) → n < 2 ^ k → halvings n (suc k) ≡ halvings n k
halvings-enough n zero h = halvings-ended n 1 (omega arith) ∙ sym (halvings-ended n 0 (omega arith))
halvings-enough n (suc k) h =
    let half : n / 2 < 2 ^ k = omega (arith, pow-suc 2 k) in
    elim (cases_lt 1 n) [
      | inl more ↦
          halvings-more n (suc k) more ∙ (ap (λ m. suc m) (halvings-enough (n / 2) k half)
          ∙ sym (halvings-more n k more))
      | inr low ↦ halvings-ended n (suc (suc k)) low ∙ sym (halvings-ended n (suc k) low)
    ]

pub turns_of-more : (n : ℕ) → 1 < n → n < 2 ^ 64 → turns_of n ≡ turns_of (n / 2) + 1
unfolding turns_of
turns_of-more n h fits =
    halvings-more n 63 h ∙ (ap (λ m. suc m) (sym (halvings-enough (n / 2) 63 (omega arith)))
    ∙ sym (add-one (halvings (n / 2) 64)))
