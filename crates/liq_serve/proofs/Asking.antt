-- Whether words ask for something.
use Rattle.std.proofs.Common.{◌≡◌, ◌<◌, ◌≤◌, ◌^◌, ℕ, zero, suc, Bool, true, false, List, [], ◌∷◌, refl, subst, arith, inl, inr}
use Rattle.std.specs.Prelude.{◌⊎◌, codes, decimal}
use Rattle.std.specs.Bool.{Decides}
use Rattle.std.specs.Str.{bytes_eq}
use Rattle.std.specs.Cmp.Lexicographic.{pointwise}
use Rattle.std.proofs.lemmas.Slice.Eq.{bytes_eq-Decides, slice_eq-Decides}
use Rattle.liq_word_line.specs.declared.words.Word.{Word}
use Rattle.liq_word_line.specs.declared.words.Word.TheVariants.{Run, Serve, Staking, Rewards, State, Audit, Report, Follow, Gen}
use Rattle.liq_word_line.specs.Words.{Ask}

abbrev EitherWay : Type 0 → Type 0
EitherWay P = P ⊎ (P → ⊥)

decided : (P : Type 0) (b : Bool) → Decides b P → EitherWay P
decided P true d = inl (d.0 refl)
decided P false d = inr (λ p. cc (d.1 p))

same_words : (a b : List (List ℕ)) → EitherWay (a ≡ b)
same_words a b = decided (a ≡ b) (pointwise bytes_eq a b) (slice_eq-Decides bytes_eq-Decides a b
    (pointwise bytes_eq a b) refl)

last_or_before : (n k : ℕ) → n < suc k → (n ≡ k) ⊎ (n < k)
last_or_before n k few = grind arith

-- of the numbers below a bound one is such, or none is
below : (P : ℕ → Type 0) → ((n : ℕ) → EitherWay (P n)) → (k : ℕ) → EitherWay ((n : ℕ) × (n < k) × P n)
below P each zero = inr (λ some. omega (arith, some.1))
below P each (suc k) = by (each k) (below P each k) where
  by : EitherWay (P k) → EitherWay ((n : ℕ) × (n < k) × P n) → EitherWay ((n : ℕ) × (n < suc k) × P n)
  by (inl p) before = inl (k, omega arith, p)
  by (inr not_so) (inl some) = inl (some.0, omega (arith, some.1), some.2)
  by (inr not_so) (inr none) = inr (λ some. last some.0 some.2 (last_or_before some.0 k some.1)) where
    last : (n : ℕ) → P n → (n ≡ k) ⊎ (n < k) → ⊥
    last n p (inl is) = not_so (subst P is p)
    last n p (inr few) = none (n, few, p)

-- a load of this seed is asked for
abbrev Loads : List (List ℕ) → ℕ → Type 0
Loads words seed = (count : ℕ) × (count < 1000001) × ((words ≡ codes "gen" ∷ decimal seed ∷ decimal count ∷ [])
    × (1 ≤ count))

counted : (words : List (List ℕ)) (seed count : ℕ)
    → EitherWay ((words ≡ codes "gen" ∷ decimal seed ∷ decimal count ∷ []) × (1 ≤ count))
counted words seed zero = inr (λ h. omega (arith, h.1))
counted words seed (suc count) = by (same_words words (codes "gen" ∷ decimal seed ∷ decimal (suc count) ∷ [])) where
  by : EitherWay (words ≡ codes "gen" ∷ decimal seed ∷ decimal (suc count) ∷ [])
      → EitherWay ((words ≡ codes "gen" ∷ decimal seed ∷ decimal (suc count) ∷ []) × (1 ≤ suc count))
  by (inl is) = inl (is, omega arith)
  by (inr not_so) = inr (λ h. not_so h.0)

loads : (words : List (List ℕ)) → EitherWay ((seed : ℕ) × (seed < 2 ^ 64) × Loads words seed)
loads words = below (Loads words) (λ seed. below _ (counted words seed) 1000001) (2 ^ 64)

-- it asks for one that stands alone, or for none of these
first_of : {A B : Type 0} → EitherWay A → EitherWay B → EitherWay (A ⊎ B)
first_of (inl a) b = inl (inl a)
first_of (inr not_so) (inl b) = inl (inr b)
first_of {A} {B} (inr not_so) (inr none) = inr by where
  by : A ⊎ B → ⊥
  by (inl a) = not_so a
  by (inr b) = none b

abbrev AskSome : List (List ℕ) → Type 0
AskSome words = Ask words Run ⊎ (Ask words Serve ⊎ (Ask words Staking ⊎ (Ask words Rewards ⊎ (Ask words State
    ⊎ (Ask words Audit ⊎ (Ask words Report ⊎ (Ask words Follow ⊎ ((seed : ℕ) × (seed < 2 ^ 64)
    × Loads words seed))))))))

some_word : (words : List (List ℕ)) → AskSome words → (word : Word) × Ask words word
some_word words (inl h) = (Run, h)
some_word words (inr (inl h)) = (Serve, h)
some_word words (inr (inr (inl h))) = (Staking, h)
some_word words (inr (inr (inr (inl h)))) = (Rewards, h)
some_word words (inr (inr (inr (inr (inl h))))) = (State, h)
some_word words (inr (inr (inr (inr (inr (inl h)))))) = (Audit, h)
some_word words (inr (inr (inr (inr (inr (inr (inl h))))))) = (Report, h)
some_word words (inr (inr (inr (inr (inr (inr (inr (inl h)))))))) = (Follow, h)
some_word words (inr (inr (inr (inr (inr (inr (inr (inr (seed, few, (count, within, (is, some))))))))))) =
    (Gen seed count, (is, few, some, omega (arith, within)))

of_word : (words : List (List ℕ)) (word : Word) → Ask words word → AskSome words
of_word words Run h = inl h
of_word words Serve h = inr (inl h)
of_word words Staking h = inr (inr (inl h))
of_word words Rewards h = inr (inr (inr (inl h)))
of_word words State h = inr (inr (inr (inr (inl h))))
of_word words Audit h = inr (inr (inr (inr (inr (inl h)))))
of_word words Report h = inr (inr (inr (inr (inr (inr (inl h))))))
of_word words Follow h = inr (inr (inr (inr (inr (inr (inr (inl h)))))))
of_word words (Gen seed count) h =
    inr (inr (inr (inr (inr (inr (inr (inr (seed, h.1, (count, omega (arith, h.3), (h.0, h.2))))))))))

pub asks_or_not : (words : List (List ℕ)) → ((word : Word) × Ask words word) ⊎ ((word : Word) → Ask words word → ⊥)
asks_or_not words = by
    (first_of (same_words words _) (first_of (same_words words _) (first_of (same_words words _)
    (first_of (same_words words _) (first_of (same_words words _) (first_of (same_words words _)
    (first_of (same_words words _) (first_of (same_words words _) (loads words))))))))) where
      by : EitherWay (AskSome words) → ((word : Word) × Ask words word) ⊎ ((word : Word) → Ask words word → ⊥)
      by (inl some) = inl (some_word words some)
      by (inr none) = inr (λ word asks. none (of_word words word asks))
