-- What a reader of words has left, and what it read.
use Rattle.std.specs.Prelude.{ℕ, List, [], ◌∷◌, Option, None, Some, unwrap_or}
use Rattle.std.specs.Prelude.{Bool, true, false, not, ◌&&◌, ◌||◌}
use Rattle.std.specs.Bool.{then_some}
use Rattle.std.specs.Option.{is_some}
use Rattle.std.specs.Borrow.{Bor}
use Rattle.liq_text.specs.Reading.{Kind, an_account, a_number, a_hint, Value, value_of, first, is_empty, pieces_of}
use Rattle.liq_text.specs.declared.pieces.Pieces.{Pieces}

unfoldable pub rest_pieces : Option (Bor (List ℕ)) → List (List ℕ)
rest_pieces None = []
rest_pieces (Some line) = pieces_of line.now

abbrev pub pieces_left : Pieces → List (List ℕ)
pieces_left p = rest_pieces p.rest

-- the first word, or an empty one
unfoldable pub first_word : List (List ℕ) → List ℕ
first_word [] = []
first_word (piece ∷ pieces) = piece

abbrev pub nothing : (kind : Kind) → Value kind
nothing an_account = 0
nothing a_number = 0
nothing a_hint = None

-- what the first word stands for, or nothing
unfoldable pub value_read : (kind : Kind) → List (List ℕ) → Value kind
value_read kind pieces = unwrap_or (first (value_of kind) pieces) (nothing kind)

-- whether a reader has failed once it has read a word of a kind
unfoldable pub fails : Kind → Bool → List (List ℕ) → Bool
fails kind failed pieces = failed || not (is_some (first (value_of kind) pieces))

-- what was read, where no word failed and none is left
unfoldable pub finished : {A : Type 0} → A → Bool → List (List ℕ) → Option A
finished x failed pieces = then_some (not failed && is_empty pieces) x

-- this, or nothing where a reader had failed before
unfoldable pub unless : {A : Type 0} → Bool → Option A → Option A
unless true o = None
unless false o = o
