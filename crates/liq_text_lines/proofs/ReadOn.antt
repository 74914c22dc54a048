-- A line that was read so far, and what came of the byte behind it.
use Rattle.std.proofs.Common.{◌≡◌, ◌≤◌, ℕ, List, [], ◌∷◌, ◌++◌, length, Option, Result, Ok, Err, subst, append-nil}
use Rattle.std.specs.Prelude.{IsErrAnd}
use Rattle.liq_types.specs.declared.amounts.TheConstants.{LINE_BYTES}
use Rattle.liq_outside.specs.declared.failed.Failed.{Failed}
use Rattle.liq_text_lines.specs.declared.reader.LineEnd.{LineEnd}
use Rattle.liq_text_lines.specs.declared.reader.LineEnd.TheVariants.{Ended, Unended, Nothing, TooLong}
use Rattle.liq_text_lines.specs.Lines.{IsWithinLine}
use Rattle.liq_text_lines.specs.Reading.{Reads, ReadsLine, IsOver, IsEndOfInput}
use Rattle.liq_text_lines.proofs.Bytes.{reads_more}

module _ (before mid after : Option (List ℕ)) (line taken : List ℕ) (front : Reads before line mid)
    (within : IsWithinLine line) where
  -- it was the line end
  pub ended_on : Reads mid (10 ∷ []) after → ReadsLine before line after taken (Ok Ended)
  ended_on read = (reads_more before mid after line (10 ∷ []) front read, within)

  -- there was no line: the source was at its end
  pub over_on : (end : LineEnd) → Reads mid [] after → IsOver after → IsEndOfInput line end
      → ReadsLine before line after taken (Ok end)
  over_on Nothing read over is =
      (subst (λ (l : List ℕ). Reads before (l ++ []) after) is (reads_more before mid after line [] front read), over)
  over_on Unended read over is = (
    subst (λ (l : List ℕ). Reads before l after) (append-nil line)
        (reads_more before mid after line [] front read),
    within,
    is,
    over,
  )
  over_on Ended read over is = absurd is
  over_on TooLong read over is = absurd is

  -- the source met a fault
  pub fails_on : (end : Result LineEnd Failed) (fault : Failed) → IsErrAnd end (λ f. f ≡ fault) → Reads mid [] after
      → taken ≡ [] → length line ≤ LINE_BYTES → ReadsLine before line after taken end
  fails_on (Ok end) fault is read empty few = absurd is
  fails_on (Err other) fault is read empty few = (
    subst (λ (l : List ℕ). Reads before l after) (append-nil line)
        (reads_more before mid after line [] front read),
    within,
    empty,
    few,
  )
