-- The lines of an audit's text.
use Rattle.std.proofs.Common.{◌≡◌, ℕ, ◌+◌, ◌-◌, ◌<◌, ◌≤◌, List, [], ◌∷◌, ◌++◌, length, get_or, take, drop, refl, sym, ap, ◌∙◌, append_assoc, drop-cons, add-one, arith}
use Rattle.std.specs.Prelude.{decimal, map}
use Rattle.std.specs.List.{flat_map, join_with_byte}
use Rattle.std.proofs.lemmas.List.{append-nil, take_all}
use Rattle.std.proofs.Math.ListN.{drop_of_length-le}

-- each number with a space in front of it
abbrev pub spaced : List ℕ → List ℕ
spaced numbers = flat_map (λ n. 32 ∷ decimal n) numbers

-- ---- one more of what a loop goes over

module _ {A : Type 0} (written : A → List ℕ) where
  pub cut : (xs : List A) (i : ℕ) (d : A) → i < length xs → drop i xs ≡ get_or xs i d ∷ drop (i + 1) xs
  cut xs i d lt = rw (add-one, drop-cons xs i d) refl

  pub one_more : (out next : List ℕ) (xs : List A) (i : ℕ) (d : A) (whole : List ℕ) → i < length xs
      → next ≡ out ++ written (get_or xs i d) → out ++ flat_map written (drop i xs) ≡ whole
      → next ++ flat_map written (drop (i + 1) xs) ≡ whole
  one_more out next xs i d whole lt e so_far =
      ap (λ (t : List ℕ). t ++ flat_map written (drop (i + 1) xs)) e
      ∙ append_assoc out (written (get_or xs i d)) (flat_map written (drop (i + 1) xs))
      ∙ ap (λ (ys : List A). out ++ flat_map written ys) (sym (cut xs i d lt))
      ∙ so_far

  pub no_more : (out : List ℕ) (xs : List A) (i : ℕ) (whole : List ℕ) → length xs ≤ i
      → out ++ flat_map written (drop i xs) ≡ whole → out ≡ whole
  no_more out xs i whole le e =
      let none : drop i xs ≡ [] = drop_of_length-le xs le in
      sym (append-nil out) ∙ ap (λ (ys : List A). out ++ flat_map written ys) (sym none) ∙ e

-- ---- numbers with one space between two

join_spaced : (n : ℕ) (ns : List ℕ) → join_with_byte 32 (map decimal (n ∷ ns)) ≡ decimal n ++ spaced ns
join_spaced n [] = sym (append-nil (decimal n))
join_spaced n (next ∷ ns) = ap (λ (rest : List ℕ). decimal n ++ (32 ∷ rest)) (join_spaced next ns)

pub joined : (out mid new numbers : List ℕ) → 1 ≤ length numbers → mid ≡ out ++ decimal (get_or numbers 0 0)
    → new ≡ mid ++ spaced (take (length numbers - 1) (drop 1 numbers))
    → new ≡ out ++ join_with_byte 32 (map decimal numbers)
joined out mid new [] some first second = absurd (omega arith)
joined out mid new (n ∷ ns) some first second =
    let all : take (length (n ∷ ns) - 1) ns ≡ ns = take_all (length (n ∷ ns) - 1) ns (omega arith) in
    second
    ∙ ap (λ (t : List ℕ). mid ++ spaced t) all
    ∙ ap (λ (t : List ℕ). t ++ spaced ns) first
    ∙ append_assoc out (decimal n) (spaced ns)
    ∙ ap (λ (t : List ℕ). out ++ t) (sym (join_spaced n ns))
