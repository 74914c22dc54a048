-- Seats of one service, taken from a list and put back.
use Rattle.std.proofs.Common.{◌≡◌, List, [], ◌∷◌, ◌++◌, length, length-append, subst, arith}
use Rattle.std.specs.Prelude.{All}
use Rattle.std.proofs.lemmas.List.{get_or_append_left}
use Rattle.std.proofs.Math.Seq.{get_or-append_seam}

pub all_front : {X : Type 0} (P : X → Type 0) (all front : List X) (x : X)
    → all ≡ front ++ x ∷ [] → All P all → All P front
all_front P all front x is whole k d within =
    subst P (get_or_append_left front (x ∷ []) d k within)
    ((subst (All P) is whole) k d (omega (arith, within, length-append front (x ∷ []))))

pub all_last : {X : Type 0} (P : X → Type 0) (all front : List X) (x : X) → all ≡ front ++ x ∷ [] → All P all → P x
all_last P all front x is whole =
    subst P (get_or-append_seam front x [] x)
    ((subst (All P) is whole) (length front) x (omega (arith, length-append front (x ∷ []))))
