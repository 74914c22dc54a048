-- Chunks none of which has more entries than a chunk may have, and one of them that changes, comes or leaves.
use Rattle.std.proofs.Common.{◌≡◌, ℕ, ◌<◌, ◌≤◌, ◌+◌, suc, zero, List, [], ◌∷◌, length, get_or, set, map, arith, subst, ap, sym, ◌∙◌}
use Rattle.std.specs.Prelude.{insert, remove, Vec}
use Rattle.liq_types.specs.Ranked.{Ranked}
use Rattle.liq_list_chunks.specs.Chunks.{AreShort}
use Rattle.liq_list_chunks.proofs.Stored.{items_of, read_rest}

module _ {Z : Type 0} where
  at : (rests : List (Vec Ranked Z)) (i : ℕ) → AreShort (map items_of rests)
      → length (get_or (map items_of rests) i []) ≤ 63
  at [] zero h = omega arith
  at [] (suc i) h = omega arith
  at (r ∷ rests) zero h = h.0
  at (r ∷ rests) (suc i) h = at rests i h.1

  pub short_read : (rests : List (Vec Ranked Z)) (i : ℕ) (r : Vec Ranked Z) → AreShort (map items_of rests)
      → i < length rests → r ≡ get_or rests i r → length r.items ≤ 63
  short_read rests i r h k was =
      let seen : length r.items ≡ length (get_or (map items_of rests) i []) =
      ap (λ (l : List Ranked). length l) (read_rest rests i r k was) in
      omega (arith, seen, at rests i h)

  pub short_set : (rests : List (Vec Ranked Z)) (i : ℕ) (r : Vec Ranked Z) → AreShort (map items_of rests)
      → length r.items ≤ 63 → AreShort (map items_of (set rests i r))
  short_set [] zero r h k = tt
  short_set [] (suc i) r h k = tt
  short_set (q ∷ rests) zero r h k = (k, h.1)
  short_set (q ∷ rests) (suc i) r h k = (h.0, short_set rests i r h.1 k)

  pub short_insert : (rests : List (Vec Ranked Z)) (i : ℕ) (r : Vec Ranked Z) → AreShort (map items_of rests)
      → length r.items ≤ 63 → AreShort (map items_of (insert rests i r))
  short_insert [] zero r h k = (k, tt)
  short_insert [] (suc i) r h k = (k, tt)
  short_insert (q ∷ rests) zero r h k = (k, h)
  short_insert (q ∷ rests) (suc i) r h k = (h.0, short_insert rests i r h.1 k)

  pub short_remove : (rests : List (Vec Ranked Z)) (i : ℕ) → AreShort (map items_of rests)
      → AreShort (map items_of (remove rests i))
  short_remove [] zero h = tt
  short_remove [] (suc i) h = tt
  short_remove (q ∷ rests) zero h = h.1
  short_remove (q ∷ rests) (suc i) h = (h.0, short_remove rests i h.1)

  room : (rests : List (Vec Ranked Z)) (i n : ℕ) (second half : Vec Ranked Z) (d : List Ranked) → i < length rests
      → length half.items < 63 → length second.items < 63 → i ≤ n → n ≤ i + 1
      → length (get_or (map items_of (set (insert rests (suc i) second) i half)) n d) < 63
  room [] i n second half d k a b low high = absurd (omega arith)
  room (r ∷ rests) zero zero second half d k a b low high = a
  room (r ∷ []) zero (suc zero) second half d k a b low high = b
  room (r ∷ q ∷ rests) zero (suc zero) second half d k a b low high = b
  room (r ∷ rests) zero (suc (suc n)) second half d k a b low high = absurd (omega arith)
  room (r ∷ rests) (suc i) zero second half d k a b low high = absurd (omega arith)
  room (r ∷ rests) (suc i) (suc n) second half d k a b low high = room rests i n second half d (omega arith) a b
      (omega arith) (omega arith)

  -- both halves of a chunk that was cut have room
  pub both_have_room : (rests others : List (Vec Ranked Z)) (i n : ℕ) (second half : Vec Ranked Z) (d : List Ranked)
      → i < length rests → others ≡ insert rests (i + 1) second → length half.items < 63 → length second.items < 63
      → i ≤ n → n ≤ i + 1 → length (get_or (map items_of (set others i half)) n d) < 63
  both_have_room rests others i n second half d k is a b low high =
      let next : i + 1 ≡ suc i = omega arith in
      subst (λ (l : List (Vec Ranked Z)). length (get_or (map items_of (set l i half)) n d) < 63) (sym (is
      ∙ ap (λ m. insert rests m second) next))
      (room rests i n second half d k a b low high)
