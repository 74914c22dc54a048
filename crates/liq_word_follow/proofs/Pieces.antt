-- The bytes of the input, piece by piece.
use Rattle.std.proofs.Common.{◌≡◌, inr, ℕ, ◌+◌, ◌≤◌, ◌<◌, List, ◌++◌, length, take, drop, get_or, Option, Some, None, refl, sym, ap, subst, ◌∙◌, append_assoc, arith}
use Rattle.std.specs.Prelude.{option_map, IfSome}
use Rattle.std.proofs.lemmas.List.{drop_more, take-append-drop, take_all}
use Rattle.liq_text_lines.specs.Reading.{Reads}
use Rattle.liq_follower.specs.Fed.{AreOver, Completes, EndsWith, GoOn}
use Rattle.liq_follower.specs.Following.{Followed, IsFed}
use Rattle.liq_follower.specs.declared.answers.FedEnd.{FedEnd}
use Rattle.liq_follower.specs.declared.answers.FedEnd.TheVariants as fed_end
use Rattle.liq_word_follow.proofs.Ended.{IsFirstFault, damage_ends, turning_ends}
use Rattle.liq_word_exit.specs.Fed.{end_of_feed}
use Rattle.liq_word_follow.specs.Feeding.{FedPiece}

-- what one read took
pub taken : (before after : Option (List ℕ)) (n : ℕ) (held : List ℕ) → after ≡ option_map (drop n) before
    → IfSome before (λ bytes. (n ≤ length bytes) × (take n held ≡ take n bytes)) → Reads before (take n held) after
taken None after n held rest bytes = sym (ap (λ (o : Option (List ℕ)). option_map (λ left. take n held ++ left) o) rest)
taken (Some all) after n held rest bytes =
    ap Some (sym (ap (λ (xs : List ℕ). xs ++ drop n all) bytes.1 ∙ take-append-drop n all))
    ∙ sym (ap (λ (o : Option (List ℕ)). option_map (λ left. take n held ++ left) o) rest)

-- ---- a piece that was fed

module _ (taken : ℕ) (fed piece : List ℕ) where
  abbrev front : List ℕ
  front = fed ++ take taken piece

  split : fed ++ piece ≡ front ++ drop taken piece
  split = sym (append_assoc fed (take taken piece) (drop taken piece)
      ∙ ap (λ (xs : List ℕ). fed ++ xs) (take-append-drop taken piece))

  pub fed_piece : (end : FedEnd) (follower : Followed) → IsFed front follower → EndsWith end front → (end ≡ fed_end.All
      → taken ≡ length piece) → (AreOver front → IsFirstFault front)
      → (end ≡ fed_end.NoMemory → taken < length piece) → (end ≡ fed_end.NoMemory
      → Completes (get_or piece taken 0) front) → FedPiece (end_of_feed end) (fed ++ piece) follower
  fed_piece fed_end.All follower is ends all first less right =
      let size = all refl in
      let same : front ≡ fed ++ piece = ap (λ (xs : List ℕ). fed ++ xs) (take_all taken piece (omega (arith, size))) in
      (subst (λ (t : List ℕ). IsFed t follower) same is, subst GoOn same ends)
  fed_piece fed_end.NoMemory follower is ends all first less right =
      let behind = drop_more piece taken 0 (less refl) in
      inr (
        front,
        drop (taken + 1) piece,
        get_or piece taken 0,
        (split ∙ ap (λ (xs : List ℕ). front ++ xs) behind),
        ends.0,
        right refl,
      )
  fed_piece (fed_end.Damaged index) follower is ends all first less right = (
    front,
    drop taken piece,
    split,
    (first (damage_ends index front ends), ends),
  )
  fed_piece (fed_end.Rotated generation) follower is ends all first less right = (
    front,
    drop taken piece,
    split,
    (first (turning_ends generation front ends), ends),
  )
