-- The least number that passes a test.
use Rattle.std.proofs.Common.{◌≡◌, ℕ, zero, suc, ◌+◌, ◌≤◌, ◌<◌, Bool, true, false, cond, arith, refl, subst, inl, inr}
use Rattle.std.proofs.lemmas.Bool.{cases_lt}
use Rattle.liq_types.specs.Product.{least_from}

-- n is the first number from k on that passes
pub record IsFirst (test : ℕ → Bool) (k n : ℕ) : Type 0 where
  pub from : k ≤ n
  pub passes : test n ≡ true
  pub first : (i : ℕ) → k ≤ i → i < n → test i ≡ false

fails_here : (test : ℕ → Bool) (k n : ℕ) → test k ≡ false → IsFirst test (k + 1) n → IsFirst test k n
fails_here test k n fail h = record {
  from = omega (arith, h.from);
  passes = h.passes;
  first = λ i low high. elim (cases_lt k i) [
    | inl later ↦ h.first i (omega arith) high
    | inr here ↦ at i (omega arith)
  ];
} where
  at : (i : ℕ) → k ≡ i → test i ≡ false
  at i e = subst (λ j. test j ≡ false) e fail

first_here : (test : ℕ → Bool) (k : ℕ) → test k ≡ true → IsFirst test k k
first_here test k pass = record { from = omega arith; passes = pass; first = λ i low high. absurd (omega arith) }

step_here : (test : ℕ → Bool) (k n : ℕ) (b : Bool) → test k ≡ b → (b ≡ false → IsFirst test (k + 1) n)
    → IsFirst test k (cond b k n)
step_here test k n true pass h = first_here test k pass
step_here test k n false fail h = fails_here test k n fail (h refl)

clash : (b : Bool) → b ≡ false → b ≡ true → ⊥
clash b fail pass = cc

-- where a number within reach passes, the search finds the first
pub least_from-first : (test : ℕ → Bool) (k more j : ℕ) → j ≤ more → test (k + j) ≡ true
    → IsFirst test k (least_from test k more)
unfolding least_from
least_from-first test k zero j few pass = first_here test k (subst (λ i. test i ≡ true) (omega arith) pass)
least_from-first test k (suc more) zero few pass =
    step_here test k (least_from test (k + 1) more) (test k) refl
    (λ fail. absurd (clash (test k) fail (subst (λ i. test i ≡ true) (omega arith) pass)))
least_from-first test k (suc more) (suc j) few pass =
    let later = least_from-first test (k + 1) more j (omega arith) (subst (λ i. test i ≡ true) (omega arith) pass) in
    step_here test k (least_from test (k + 1) more) (test k) refl (λ fail. later)
