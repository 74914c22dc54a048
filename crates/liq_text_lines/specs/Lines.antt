-- The lines of a text.
use Rattle.std.specs.Prelude.{ℕ, ◌≡◌, ◌≢◌, ◌≤◌, ◌==◌, if◌then◌else◌}
use Rattle.std.specs.Prelude.{List, [], ◌∷◌, ◌++◌, ◌+◌, length, take, drop}
use Rattle.std.specs.List.{flat_map, onto_first, AllByRecursion}
use Rattle.liq_types.specs.declared.amounts.TheConstants.{LINE_BYTES, LINES_MOST}

-- The lines, each ended by a line end; the last may lack it.
abbrev pub lines_in : List ℕ → List (List ℕ)
lines_in [] = []
lines_in (byte ∷ bytes) = if byte == 10 then [] ∷ lines_in bytes
    else onto_first byte (lines_in bytes)

-- lines, each with its line end
abbrev pub ended : List (List ℕ) → List ℕ
ended lines = flat_map (λ line. line ++ 10 ∷ []) lines

-- no line end stands in it
abbrev pub IsWithinLine : List ℕ → Type 0
IsWithinLine bytes = AllByRecursion (λ byte. byte ≢ 10) bytes

-- the first line of these bytes has this length and is no longer than a line may be, and its line
-- end stands behind it
abbrev pub IsWholeLine : ℕ → List ℕ → Type 0
IsWholeLine size bytes =
    (size ≤ LINE_BYTES) × IsWithinLine (take size bytes)
    × (bytes ≡ take size bytes ++ 10 ∷ drop (size + 1) bytes)

-- What was given of the line behind so many others: it has no line end, and is no longer than a
-- line may be. Behind the last line that is answered there is none of it.
pub record IsPartOfLine (before : ℕ) (part : List ℕ) : Type 0 where
  pub within : AllByRecursion (λ byte. byte ≢ 10) part
  pub short : length part ≤ LINE_BYTES
  pub none_behind : before ≡ LINES_MOST → part ≡ []
