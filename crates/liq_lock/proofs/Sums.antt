-- Sums over the views, which change at one view or two.
use Rattle.std.proofs.Common.{◌≡◌, ℕ, zero, suc, ◌+◌, ◌≤◌, ◌≢◌, List, [], ◌∷◌, ◌++◌, set, refl, sym, ap, arith}
use mathlib.Core.Option.{some, some-injective, some-ne-none}
use lib.ListN.{get_elem?}
use Rattle.std.specs.Prelude.{sum_by}
use Rattle.std.proofs.lemmas.List.Sums.{sum_by-cons}

module _ {A : Type 0} (f : A → ℕ) where
  pub sum_set : (l : List A) (i : ℕ) (v w : A) → get_elem? l i ≡ some v → sum_by f (set l i w) + f v ≡ sum_by f l + f w
  sum_set [] i v w e = absurd (some-ne-none v (sym e))
  sum_set (x ∷ xs) zero v w e =
      let is : f x ≡ f v = ap f (some-injective x v e) in omega (arith, sum_by-cons f w xs, sum_by-cons f x xs)
  sum_set (x ∷ xs) (suc i) v w e =
      let r = sum_set xs i v w e in omega (arith, sum_by-cons f x (set xs i w), sum_by-cons f x xs)

  pub sum_at : (l : List A) (i : ℕ) (v : A) → get_elem? l i ≡ some v → f v ≤ sum_by f l
  sum_at [] i v e = absurd (some-ne-none v (sym e))
  sum_at (x ∷ xs) zero v e = let is : f x ≡ f v = ap f (some-injective x v e) in omega (arith, sum_by-cons f x xs)
  sum_at (x ∷ xs) (suc i) v e = let r = sum_at xs i v e in omega (arith, sum_by-cons f x xs)

  pub sum_two : (l : List A) (i j : ℕ) (v w : A) → get_elem? l i ≡ some v → get_elem? l j ≡ some w → j ≢ i
      → f v + f w ≤ sum_by f l
  sum_two [] i j v w e d n = absurd (some-ne-none v (sym e))
  sum_two (x ∷ xs) zero zero v w e d n = absurd (n refl)
  sum_two (x ∷ xs) zero (suc j) v w e d n =
      let is : f x ≡ f v = ap f (some-injective x v e) in let r = sum_at xs j w d in omega (arith, sum_by-cons f x xs)
  sum_two (x ∷ xs) (suc i) zero v w e d n =
      let is : f x ≡ f w = ap f (some-injective x w d) in let r = sum_at xs i v e in omega (arith, sum_by-cons f x xs)
  sum_two (x ∷ xs) (suc i) (suc j) v w e d n =
      let r = sum_two xs i j v w e d (λ h. n (ap suc h)) in omega (arith, sum_by-cons f x xs)

  pub sum_snoc : (l : List A) (v : A) → sum_by f (l ++ v ∷ []) ≡ sum_by f l + f v
  sum_snoc [] v = omega (arith, sum_by-cons f v [])
  sum_snoc (x ∷ xs) v = let r = sum_snoc xs v in omega (arith, sum_by-cons f x (xs ++ v ∷ []), sum_by-cons f x xs)

  pub sum_le : (g : A → ℕ) (l : List A) → ((j : ℕ) (v : A) → get_elem? l j ≡ some v → f v ≤ g v)
      → sum_by f l ≤ sum_by g l
  sum_le g [] h = omega arith
  sum_le g (x ∷ xs) h =
      let here : f x ≤ g x = h 0 x refl in
      let r = sum_le g xs (λ j v e. h (suc j) v e) in omega (arith, sum_by-cons f x xs, sum_by-cons g x xs)
