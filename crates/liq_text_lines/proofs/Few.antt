-- How many bytes were read.
use Rattle.std.proofs.Common.{◌≡◌, ℕ, ◌+◌, ◌≤◌, List, [], ◌∷◌, ◌++◌, length, Option, Some, None, Result, Ok, Err, refl, ap, sym, ◌∙◌, append_assoc, length-append, arith}
use Rattle.liq_outside.specs.declared.failed.Failed.{Failed}
use Rattle.liq_types.specs.declared.amounts.TheConstants.{LINE_BYTES}
use Rattle.liq_text_lines.specs.declared.reader.LineEnd.{LineEnd}
use Rattle.liq_text_lines.specs.declared.reader.LineEnd.TheVariants.{Ended, Unended, Nothing, TooLong}
use Rattle.liq_text_lines.specs.Reading.{unread, Reads, ReadsAtMost, ReadsLine}
use Rattle.liq_text_lines.proofs.Bytes.{reads_nothing, reads_more}

-- a line is no more than its bytes and one
pub line_few : (before after : Option (List ℕ)) (line taken : List ℕ) (result : Result LineEnd Failed)
    → ReadsLine before line after taken result → length line ≤ LINE_BYTES → ReadsAtMost (LINE_BYTES + 1) before after
line_few before after line taken (Ok Ended) read short =
    (line ++ 10 ∷ [], read.0, omega (arith, short, length-append line (10 ∷ [])))
line_few before after line taken (Ok Unended) read short = (line, read.0, omega (arith, short))
line_few before after line taken (Ok Nothing) read short = ([], read.0, omega arith)
line_few before after line taken (Ok TooLong) read short =
    (line ++ read.0 ∷ [], read.1, omega (arith, short, length-append line (read.0 ∷ [])))
line_few before after line taken (Err fault) read short = (line, read.0, omega (arith, short))

-- a whole line that was taken is read
pub ended_few : (old line new : List ℕ) (left : Option (List ℕ)) → old ≡ line ++ 10 ∷ new → length line ≤ LINE_BYTES
    → ReadsAtMost (LINE_BYTES + 1) (unread old left) (unread new left)
ended_few old line new left is short =
    (line ++ 10 ∷ [], by left, omega (arith, short, length-append line (10 ∷ []))) where
      by : (left : Option (List ℕ)) → Reads (unread old left) (line ++ 10 ∷ []) (unread new left)
      by None = refl
      by (Some more) = ap (λ (t : List ℕ). Some (t ++ more)) (is ∙ sym (append_assoc line (10 ∷ []) new))
          ∙ ap Some (append_assoc (line ++ 10 ∷ []) new more)

pub few_within : (before after : Option (List ℕ)) (m n : ℕ) → ReadsAtMost m before after → m ≤ n
    → ReadsAtMost n before after
few_within before after m n h most = (h.0, h.1, omega (arith, h.2, most))

pub few_none : (before : Option (List ℕ)) → ReadsAtMost 0 before before
few_none before = ([], reads_nothing before, omega arith)

pub few_more : (before mid after : Option (List ℕ)) (m n : ℕ) → ReadsAtMost m before mid → ReadsAtMost n mid after
    → ReadsAtMost (m + n) before after
few_more before mid after m n h k = (
  h.0 ++ k.0,
  reads_more before mid after h.0 k.0 h.1 k.1,
  omega (
    arith,
    h.2,
    k.2,
    length-append h.0 k.0,
  ),
)

-- what was taken of a source: what was read, and what is held
pub few_taken : (before left : Option (List ℕ)) (held : List ℕ) (m n : ℕ) → ReadsAtMost m before (unread held left)
    → length held ≤ n → ReadsAtMost (m + n) before left
few_taken before left held m n h most = few_more before (unread held left) left m n h (held, by left, most) where
  by : (left : Option (List ℕ)) → Reads (unread held left) held left
  by None = refl
  by (Some more) = refl
