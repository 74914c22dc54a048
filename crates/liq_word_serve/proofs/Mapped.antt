-- What is read of each item of a list, with one more item behind it.
use Rattle.std.proofs.Common.{◌≡◌, List, [], ◌∷◌, ◌++◌, length, map, sym, ap, ◌∙◌}
use Rattle.std.proofs.lemmas.List.{map-append}

pub mapped_more : {X Y : Type 0} (f : X → Y) (front items : List X) (x : X) (before all : List Y)
    → items ≡ front ++ x ∷ [] → all ≡ before ++ f x ∷ [] → map f front ≡ before → map f items ≡ all
mapped_more f front items x before all are all_are same = ap (map f) are ∙ map-append f front (x ∷ [])
    ∙ ap (λ ys. ys ++ f x ∷ []) same ∙ sym all_are

pub mapped_none : {X Y : Type 0} (f : X → Y) (items : List X) (all : List Y) → items ≡ [] → length all ≡ 0
    → map f items ≡ all
mapped_none f items [] none empty = ap (map f) none
mapped_none f items (y ∷ ys) none empty = absurd (cc empty)
