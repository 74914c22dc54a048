-- A chunk behind all others.
use Rattle.std.proofs.Common.{◌≡◌, List, [], ◌∷◌, ◌++◌, length, map, refl, sym, ap, ◌∙◌, arith, append_assoc}
use Rattle.std.specs.Prelude.{Vec}
use Rattle.liq_types.specs.Ranked.{Ranked}
use Rattle.liq_list_chunks.specs.Chunks.{joined}
use Rattle.liq_list_chunks.proofs.Stored.{items_of}

empty_behind : (r : List Ranked) → r ++ [] ≡ r
empty_behind [] = refl
empty_behind (e ∷ r) = ap (λ (l : List Ranked). e ∷ l) (empty_behind r)

module _ {Z : Type 0} (first : Ranked) (rest : Vec Ranked Z) where
  pub joined_more : (fs : List Ranked) (rests : List (Vec Ranked Z)) → length fs ≡ length rests
      → joined (fs ++ first ∷ []) (map items_of (rests ++ rest ∷ []))
      ≡ joined fs (map items_of rests) ++ (first ∷ rest.items)
  joined_more [] [] h = ap (λ (l : List Ranked). first ∷ l) (empty_behind rest.items)
  joined_more [] (r ∷ rests) h = absurd (omega arith)
  joined_more (f ∷ fs) [] h = absurd (omega arith)
  joined_more (f ∷ fs) (r ∷ rests) h =
      ap (λ (l : List Ranked). f ∷ (r.items ++ l)) (joined_more fs rests (omega arith))
      ∙ ap (λ (l : List Ranked). f ∷ l) (sym (append_assoc r.items (joined fs (map items_of rests))
      (first ∷ rest.items)))
