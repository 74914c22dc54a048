-- What the lines of a text say, and where reading them stops. Which line says what is a relation:
-- of lines and requests, or of lines and what they ask in a session.
use Rattle.std.specs.Prelude.{ℕ, ◌≡◌, ◌≤◌, ◌+◌, List, ◌∷◌, ◌++◌, length, Option, Some}
use Rattle.std.specs.List.{AllZip}
use Rattle.liq_types.specs.declared.amounts.TheConstants.{LINES_MOST}
use Rattle.liq_text_lines.specs.declared.stops.Stop.{Stop}
use Rattle.liq_text_lines.specs.declared.stops.Stop.TheVariants.{BadLine, ReadFault, NoMemory, Limit}
use Rattle.liq_text_lines.specs.Lines.{ended, lines_in, IsPartOfLine}

module _ {X : Type 0} (Says : List ℕ → X → Type 0) where
  -- the line says nothing
  abbrev pub IsBadLine : List ℕ → Type 0
  IsBadLine line = (x : X) → Says line x → ⊥

  -- the text begins with lines that say this, each what stands in its place, and these lines follow
  abbrev pub BeginsWith : List ℕ → List X → List (List ℕ) → Type 0
  BeginsWith bytes said more = (lines : List (List ℕ)) × AllZip Says lines said
      × (lines_in bytes ≡ lines ++ more)

  -- Why reading the bytes stopped behind the lines that say this. `left` is what the source still
  -- tells.
  abbrev pub StopsAfter : Stop → List ℕ → Option (List ℕ) → List X → Type 0
  -- the next line is the first that says nothing
  StopsAfter (BadLine number) bytes left said = (number ≡ length said + 1) × (number ≤ LINES_MOST)
      × ((line : List ℕ) × IsBadLine line × ((more : List (List ℕ))
      × BeginsWith bytes said (line ∷ more)))
  -- these are all lines whose ends the source gave
  StopsAfter ReadFault bytes left said = (front : List (List ℕ)) × AllZip Says front said
      × ((part : List ℕ) × IsPartOfLine (length said) part
      × ((rest : List ℕ) × (left ≡ Some rest) × (bytes ≡ ended front ++ part ++ rest)))
  StopsAfter NoMemory bytes left said = (more : List (List ℕ)) × BeginsWith bytes said more
  -- these are as many lines as are read, and a further one begins
  StopsAfter Limit bytes left said = (length said ≡ LINES_MOST)
      × ((line : List ℕ) × ((more : List (List ℕ)) × BeginsWith bytes said (line ∷ more)))
