-- Lines that are no requests.
use Rattle.std.proofs.Common.{◌≡◌, ℕ, ◌≤◌, List, ◌∷◌, ◌++◌, length, Option, Some, None, [], append_assoc, append-nil, ◌∙◌, ap, arith, length-append}
use Rattle.liq_types.specs.declared.amounts.TheConstants.{LINE_BYTES}
use Rattle.liq_text.proofs.LineLengths.{request_short}
use Rattle.liq_text_lines.specs.Lines.{lines_in, IsWithinLine}
use Rattle.liq_text_lines.specs.Reading.{Reads, IsOver}
use Rattle.liq_text_lines.proofs.Bytes.{told_reads}
use Rattle.liq_text_lines.proofs.LinesRead.{lines_in-longer, lines_in-ended, lines_in-unended}
use Rattle.liq_text_lines.specs.Saying.{IsBadLine}
use Rattle.liq_word_run.specs.Progress.{ReadsBad, with_end, without_end, too_long}
use Rattle.liq_word_exit.specs.Requests.{IsRequest}

-- a line of more than 200 bytes
bad_long : (line : List ℕ) → 201 ≤ length line → IsBadLine IsRequest line
bad_long line long q h = omega (arith, long, request_short line q h)

-- the first line of what is unread, where it goes on past its limit
bad_too_long : (line : List ℕ) (byte : ℕ) (after : Option (List ℕ)) (bytes : List ℕ) → IsWithinLine line
    → (byte ≡ 10 → ⊥) → length line ≡ LINE_BYTES → Reads (Some bytes) (line ++ byte ∷ []) after → (first : List ℕ)
    × IsBadLine IsRequest first × ((more : List (List ℕ)) × (lines_in bytes ≡ first ∷ more))
bad_too_long line byte None bytes within apart long h = absurd (cc h)
bad_too_long line byte (Some rest) bytes within apart long h =
    let longer = lines_in-longer line byte rest within apart in (
      line ++ byte ∷ longer.0,
      bad_long (line ++ byte ∷ longer.0) (omega (arith, length-append line (byte ∷ longer.0), long)),
      (
        longer.1,
        ap lines_in (told_reads bytes (line ++ byte ∷ []) rest h ∙ append_assoc line (byte ∷ []) rest)
            ∙ longer.2,
      ),
    )

-- the line that was read, where it is bad
bad_ended : (line : List ℕ) (after : Option (List ℕ)) (bytes : List ℕ) → IsWithinLine line → IsBadLine IsRequest line
    → Reads (Some bytes) (line ++ 10 ∷ []) after → (first : List ℕ) × IsBadLine IsRequest first
    × ((more : List (List ℕ)) × (lines_in bytes ≡ first ∷ more))
bad_ended line None bytes within bad h = absurd (cc h)
bad_ended line (Some rest) bytes within bad h = (
  line,
  bad,
  (
    lines_in rest,
    ap lines_in (told_reads bytes (line ++ 10 ∷ []) rest h
        ∙ append_assoc line (10 ∷ []) rest) ∙ lines_in-ended line rest within,
  ),
)

bad_unended : (line : List ℕ) (after : Option (List ℕ)) (bytes : List ℕ) → IsWithinLine line → (line ≡ [] → ⊥)
    → IsBadLine IsRequest line → Reads (Some bytes) line after → IsOver after → (first : List ℕ)
    × IsBadLine IsRequest first × ((more : List (List ℕ)) × (lines_in bytes ≡ first ∷ more))
bad_unended line None bytes within some bad h over = absurd (cc h)
bad_unended line (Some rest) bytes within some bad h over = (
  line,
  bad,
  (
    [],
    ap lines_in (told_reads bytes line rest h ∙ ap (λ (t : List ℕ). line ++ t) over ∙ append-nil line)
        ∙ lines_in-unended line within some,
  ),
)

pub first_is_bad : (bytes : List ℕ) (after : Option (List ℕ)) → ReadsBad (Some bytes) after → (first : List ℕ)
    × IsBadLine IsRequest first × ((more : List (List ℕ)) × (lines_in bytes ≡ first ∷ more))
first_is_bad bytes after (with_end line bad within reads) = bad_ended line after bytes within bad reads
first_is_bad bytes after (without_end line bad within some reads over) =
    bad_unended line after bytes within some bad reads over
first_is_bad bytes after (too_long line byte within apart long reads) =
    bad_too_long line byte after bytes within apart long reads
