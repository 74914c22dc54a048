-- A line for each of a list, one behind the other.
use Rattle.std.proofs.Common.{◌≡◌, ℕ, ◌+◌, ◌<◌, ◌≤◌, List, [], ◌∷◌, ◌++◌, length, get_or, drop, refl, sym, ap, ◌∙◌, append_assoc, append-nil, drop-cons, drop_of_length-le, add-one}
use Rattle.std.specs.List.{flat_map}

pub line_next : (f : ℕ → List ℕ) (out next whole : List ℕ) (xs : List ℕ) (i d : ℕ) → i < length xs
    → next ≡ out ++ f (get_or xs i d)
    → out ++ flat_map f (drop i xs) ≡ whole → next ++ flat_map f (drop (i + 1) xs) ≡ whole
line_next f out next whole xs i d lt put rest =
    ap (λ (t : List ℕ). t ++ flat_map f (drop (i + 1) xs)) put
    ∙ append_assoc out (f (get_or xs i d)) (flat_map f (drop (i + 1) xs))
    ∙ ap (λ (t : List ℕ). out ++ flat_map f t) (sym here)
    ∙ rest
  where
    here : drop i xs ≡ get_or xs i d ∷ drop (i + 1) xs
    here = rw (add-one, drop-cons xs i d lt) refl

pub line_last : (f : ℕ → List ℕ) (out whole : List ℕ) (xs : List ℕ) (i : ℕ) → length xs ≤ i
    → out ++ flat_map f (drop i xs) ≡ whole → out ≡ whole
line_last f out whole xs i le rest =
    sym (append-nil out) ∙ ap (λ (t : List ℕ). out ++ flat_map f t) (sym none) ∙ rest
  where
    none : drop i xs ≡ []
    none = drop_of_length-le xs le
