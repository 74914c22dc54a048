-- How far a word has read.
use Rattle.std.specs.Prelude.{ℕ, ◌≡◌, [], List, Option, Some, Ok, Err}
use Rattle.std.specs.List.{AllZip}
use Rattle.liq_types.specs.declared.amounts.TheConstants.{LINES_MOST}
use Rattle.liq_text_lines.specs.declared.stops.Stop.TheVariants as stop
use Rattle.liq_text_lines.specs.Lines.{lines_in}
use Rattle.liq_text_lines.specs.Saying.{BeginsWith, StopsAfter}
use Rattle.liq_word_exit.specs.declared.halts.Halt.TheVariants.{BadLine, ReadFault, Limit}
use Rattle.liq_word_exit.specs.Statuses.{End}

-- The lines of the bytes that were read say this, each what stands in its place; `left` is what the
-- source still tells.
module _ {X : Type 0} (Says : List ℕ → X → Type 0) (bytes : List ℕ) (left : Option (List ℕ))
    (said : List X) where
  abbrev pub ReadsTo : End → Type 0
  -- they are all, and the source is at its end
  ReadsTo (Ok done) = AllZip Says (lines_in bytes) said × (left ≡ Some [])
  -- reading stopped behind them
  ReadsTo (Err (BadLine n)) = StopsAfter Says (stop.BadLine n) bytes left said
  ReadsTo (Err ReadFault) = StopsAfter Says stop.ReadFault bytes left said
  ReadsTo (Err (Limit n)) = (n ≡ LINES_MOST) × StopsAfter Says stop.Limit bytes left said
  -- they are the first ones
  ReadsTo (Err halt) = (more : List (List ℕ)) × BeginsWith Says bytes said more
