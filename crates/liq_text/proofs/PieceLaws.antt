-- The words of a line, taken one after the other.
use Rattle.std.proofs.Common.{◌≡◌, ℕ, ◌+◌, ◌-◌, ◌<◌, ◌≤◌, Bool, true, false, cond, eqb, ltb, List, [], ◌∷◌, length, take, drop, Option, Some, None, refl, sym, ap, subst, arith}
use Rattle.std.specs.Borrow.{Bor}
use Rattle.std.specs.Option.{is_some}
use Rattle.std.specs.Prelude.{position, not, ◌&&◌}
use Rattle.std.specs.List.{slice_split, onto_first, position_or_len, All}
use Rattle.std.proofs.lemmas.Bool.{ltb-true, ltb-false}
use Rattle.std.proofs.lemmas.Option.{cond_some}
use Rattle.std.proofs.lemmas.List.Splits.{slice_split_none, slice_split_first}
use Rattle.std.proofs.lemmas.Grind.{common_steps}
use Rattle.std.proofs.lemmas.List.Sums.{fails_before_first}
use Rattle.liq_text.specs.Reading.{pieces_of, others, is_empty}
use Rattle.liq_text.specs.Pieces.{rest_pieces, first_word}

onto_some : (x : ℕ) (parts : List (List ℕ)) → is_empty (onto_first x parts) ≡ false
unfolding is_empty
onto_some x [] = refl
onto_some x (part ∷ parts) = refl

either_some : (b : Bool) (x : ℕ) (parts others : List (List ℕ))
    → is_empty (cond b ([] ∷ parts) (onto_first x others)) ≡ false
unfolding is_empty
either_some true x parts others = refl
either_some false x parts others = onto_some x others

-- a line has a word
pub is_empty-pieces_of : (line : List ℕ) → is_empty (pieces_of line) ≡ false
unfolding pieces_of is_empty
is_empty-pieces_of [] = refl
is_empty-pieces_of (b ∷ line) = either_some (eqb b 32) b (slice_split (λ b. eqb b 32) line)
    (slice_split (λ b. eqb b 32) line)

is_empty-rest_pieces : (rest : Option (Bor (List ℕ))) (r : Bool) → is_some rest ≡ not r
    → r ≡ is_empty (rest_pieces rest)
unfolding is_empty rest_pieces
is_empty-rest_pieces None true e = refl
is_empty-rest_pieces None false e = absurd cc
is_empty-rest_pieces (Some line) true e = absurd cc
is_empty-rest_pieces (Some line) false e = sym (is_empty-pieces_of line.now)

pub done-rest_pieces : (failed : Bool) (rest : Option (Bor (List ℕ))) (r : Bool) → failed ≡ false → is_some rest ≡ not r
    → r ≡ (not failed && is_empty (rest_pieces rest))
done-rest_pieces true rest r well e = absurd cc
done-rest_pieces false rest r well e = is_empty-rest_pieces rest r e

abbrev is_space : ℕ → Bool
is_space b = eqb b 32

none_is_far : (b : Bool) (k : ℕ) → None ≡ cond b (Some k) None → b ≡ false
none_is_far true k e = absurd cc
none_is_far false k e = refl

spaceless : (line : List ℕ) → None ≡ position is_space line → All (λ b. is_space b ≡ false) line
spaceless line none = let far : length line ≤ position_or_len is_space line = ltb-false _ _ (none_is_far _ _ none)
    in λ k d lt. fails_before_first is_space line k d (omega arith)

-- where no space stands, the line is one word
pub pieces_of-one : (line : List ℕ) → None ≡ position (λ b. eqb b 32) line → pieces_of line ≡ line ∷ []
unfolding pieces_of
pieces_of-one line none = slice_split_none is_space line (spaceless line none)

pub pieces_of-more : (line : List ℕ) (at : ℕ) → Some at ≡ position (λ b. eqb b 32) line
    → pieces_of line ≡ take at line ∷ pieces_of (drop (at + 1) line)
unfolding pieces_of
pieces_of-more line at found =
    let g = cond_some (ltb (position_or_len is_space line) (length line)) (position_or_len is_space line) at
    (sym found) in
    subst (λ (k : ℕ). slice_split is_space line ≡ take k line ∷ slice_split is_space (drop (k + 1) line)) g.1
    (slice_split_first is_space line 0 (ltb-true _ _ g.0))

-- a slice from a place to the end
pub to_the_end : (line : List ℕ) (from : ℕ) {pieces : List (List ℕ)} {word : List ℕ}
    → pieces ≡ word ∷ pieces_of (drop from line)
    → pieces ≡ word ∷ pieces_of (take (length line - from) (drop from line))
to_the_end line from {pieces} {word} e = let whole : take (length line - from) (drop from line) ≡ drop from line =
    grind (arith, common_steps) in rw whole e

pub word_none : (rest : Option (Bor (List ℕ))) → rest ≡ None → [] ≡ first_word (rest_pieces rest)
unfolding first_word rest_pieces
word_none rest none = rw none refl

pub left_none : (rest : Option (Bor (List ℕ))) → rest ≡ None → rest_pieces rest ≡ others (rest_pieces rest)
unfolding others rest_pieces
left_none rest none = rw none refl

pub word_some : (rest : Option (Bor (List ℕ))) (line : Bor (List ℕ)) (piece : List ℕ) {pieces : List (List ℕ)}
    → rest ≡ Some line → pieces_of line.now ≡ piece ∷ pieces → piece ≡ first_word (rest_pieces rest)
unfolding first_word rest_pieces
word_some rest line piece some e = rw (some, e) refl

pub left_some : (rest : Option (Bor (List ℕ))) (line : Bor (List ℕ)) (piece : List ℕ) {pieces : List (List ℕ)}
    → rest ≡ Some line → pieces_of line.now ≡ piece ∷ pieces → pieces ≡ others (rest_pieces rest)
unfolding others rest_pieces
left_some rest line piece some e = rw (some, e) refl

-- ---- how many words there are

nonempty : (parts : List (List ℕ)) → is_empty parts ≡ false → 0 < length parts
unfolding is_empty
nonempty [] e = absurd cc
nonempty (part ∷ parts) e = omega arith

one_more : (line word : List ℕ) (rest : Option (Bor (List ℕ))) → pieces_of line ≡ word ∷ rest_pieces rest
    → length (pieces_of line) ≡ length (rest_pieces rest) + 1
one_more line word rest e = omega (arith, ap (λ (parts : List (List ℕ)). length parts) e)

-- as its first word leaves nothing, something, or these
pub one_word : (line word : List ℕ) (rest : Option (Bor (List ℕ))) → pieces_of line ≡ word ∷ rest_pieces rest
    → rest ≡ None → length (pieces_of line) ≡ 1
unfolding rest_pieces
one_word line word rest e none = let left : length (rest_pieces rest) ≡ 0 = rw none refl
    in omega (arith, left, one_more line word rest e)

pub more_words : (line word : List ℕ) (rest : Option (Bor (List ℕ))) → pieces_of line ≡ word ∷ rest_pieces rest
    → is_some rest ≡ true → 1 < length (pieces_of line)
unfolding rest_pieces
more_words line word None e some = absurd cc
more_words line word (Some left) e some = omega (
  arith,
  nonempty (pieces_of left.now) (is_empty-pieces_of left.now),
  one_more line word (Some left) e,
)

pub words_behind : (line word : List ℕ) (rest : Option (Bor (List ℕ))) (left : Bor (List ℕ))
    → pieces_of line ≡ word ∷ rest_pieces rest → rest ≡ Some left → length (pieces_of line)
    ≡ length (pieces_of left.now) + 1
unfolding rest_pieces
words_behind line word rest left e some = let same : length (rest_pieces rest) ≡ length (pieces_of left.now) =
    rw some refl in omega (arith, same, one_more line word rest e)

pub same_four : {a b c d p q r s : List ℕ} → a ≡ p → b ≡ q → c ≡ r → d ≡ s → (a ∷ b ∷ c ∷ d ∷ []) ≡ (p ∷ q ∷ r ∷ s ∷ [])
same_four e f g h = rw (e, f, g, h) refl
