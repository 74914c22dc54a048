-- Steps that each keep what is there or put one thing in its place: taken again, they change no more.
use Rattle.std.proofs.Common.{◌≡◌, List, [], ◌∷◌, ◌++◌, refl, sym, ap, ◌∙◌, ◌⊎◌, inl, inr}
use Rattle.std.specs.Prelude.{fold}
use Rattle.std.proofs.lemmas.List.Sums.{fold-append}

abbrev pub Settles : (X : Type 0) → (X → X) → Type 0
Settles X f = ((x : X) → f x ≡ x) ⊎ ((c : X) × ((x : X) → f x ≡ c))

module _ {X C : Type 0} (step : X → C → X) where
  one_more : (change : C) (more : List C) → Settles X (λ x. step x change) → Settles X (λ x. fold step x more)
      → Settles X (λ x. fold step x (change ∷ more))
  one_more change more one (inr (c, there)) = inr (c, λ x. there (step x change))
  one_more change more (inl kept) (inl same) = inl (λ x. same (step x change) ∙ kept x)
  one_more change more (inr (c, there)) (inl same) = inr (c, λ x. same (step x change) ∙ there x)

  all_settle : ((change : C) → Settles X (λ x. step x change)) → (changes : List C)
      → Settles X (λ x. fold step x changes)
  all_settle settles [] = inl (λ x. refl)
  all_settle settles (change ∷ more) = one_more change more (settles change) (all_settle settles more)

  twice : (f : X → X) → Settles X f → (x : X) → f (f x) ≡ f x
  twice f (inl same) x = same (f x)
  twice f (inr (c, there)) x = there (f x) ∙ sym (there x)

  pub given_again : ((change : C) → Settles X (λ x. step x change)) → (x : X) (first more : List C)
      → fold step (fold step x first) (first ++ more) ≡ fold step x (first ++ more)
  given_again settles x first more =
      fold-append step (fold step x first) first more
      ∙ ap (λ y. fold step y more) (twice (λ y. fold step y first) (all_settle settles first) x)
      ∙ sym (fold-append step x first more)
