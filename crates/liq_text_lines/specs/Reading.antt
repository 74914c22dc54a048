-- What reading a line leaves.
use Rattle.std.specs.Prelude.{ℕ, ◌≡◌, ◌≢◌, ◌≤◌, ◌+◌, ◌*◌, List, [], ◌∷◌, ◌++◌}
use Rattle.std.specs.Prelude.{length, Option, option_map, Result, Ok, Err, IfSome}
use Rattle.liq_outside.specs.declared.failed.Failed.{Failed}
use Rattle.liq_text_lines.specs.declared.reader.TheConstants.{READ_BYTES}
use Rattle.liq_text_lines.specs.declared.reader.LineEnd.{LineEnd}
use Rattle.liq_text_lines.specs.declared.reader.LineEnd.TheVariants.{Ended, Unended, Nothing, TooLong}
use Rattle.liq_text_lines.specs.Lines.{IsWithinLine}
use Rattle.liq_types.specs.declared.amounts.TheConstants.{LINE_BYTES}

-- what is unread: bytes that were taken already, and those that the source has left, where it tells
-- them
abbrev pub unread : List ℕ → Option (List ℕ) → Option (List ℕ)
unread taken left = option_map (λ bytes. taken ++ bytes) left

-- these bytes were read
abbrev pub Reads : Option (List ℕ) → List ℕ → Option (List ℕ) → Type 0
Reads before bytes after = before ≡ option_map (λ rest. bytes ++ rest) after

-- at most so many bytes were read
abbrev pub ReadsAtMost : ℕ → Option (List ℕ) → Option (List ℕ) → Type 0
ReadsAtMost most before after = (bytes : List ℕ) × Reads before bytes after × (length bytes ≤ most)

-- the most that is taken of a source for so many lines: each with its line end, and what one read
-- asks for
abbrev pub taken_most : ℕ → ℕ
taken_most lines = lines * (LINE_BYTES + 1) + READ_BYTES

-- at most n lines were read, and no more is held than one read asks for
pub record ReadsFew (before : Option (List ℕ)) (n : ℕ) (reader : List ℕ) (left : Option (List ℕ)) :
    Type 0 where
  pub few : ReadsAtMost (n * (LINE_BYTES + 1)) before (unread reader left)
  pub held : length reader ≤ READ_BYTES

-- nothing is unread, as far as that is told
abbrev pub IsOver : Option (List ℕ) → Type 0
IsOver left = IfSome left (λ bytes. bytes ≡ [])

-- a line was read, or what stood in its place
abbrev pub ReadsLine :
    Option (List ℕ) → List ℕ → Option (List ℕ) → List ℕ → Result LineEnd Failed → Type 0
ReadsLine before line after taken (Ok Ended) = Reads before (line ++ 10 ∷ []) after
    × IsWithinLine line
ReadsLine before line after taken (Ok Unended) =
    Reads before line after × IsWithinLine line × (line ≢ []) × IsOver after
ReadsLine before line after taken (Ok Nothing) = Reads before [] after × IsOver after
ReadsLine before line after taken (Ok TooLong) =
    (byte : ℕ) × Reads before (line ++ byte ∷ []) after × IsWithinLine line × (byte ≢ 10)
    × (length line ≡ LINE_BYTES)
-- all that the source had given was read, no line end stands in it, and it is not too long
ReadsLine before line after taken (Err fault) =
    Reads before line after × IsWithinLine line × (taken ≡ []) × (length line ≤ LINE_BYTES)

-- at the source's end there is a line where some of it came
abbrev pub IsEndOfInput : List ℕ → LineEnd → Type 0
IsEndOfInput line Nothing = line ≡ []
IsEndOfInput line Unended = line ≢ []
IsEndOfInput line _ = ⊥
