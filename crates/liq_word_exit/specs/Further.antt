-- What a look behind the most bytes that are taken of a source shows.
use Rattle.std.specs.Prelude.{ℕ, ◌≡◌, List, [], length, Option, Ok, Err}
use Rattle.liq_text_lines.specs.Reading.{IsOver}
use Rattle.liq_word_exit.specs.declared.halts.Halt.TheVariants.{Limit, ReadFault}
use Rattle.liq_word_exit.specs.Statuses.{End}

-- a byte behind so many was looked for: there is none, or it was read, which is too much
abbrev pub IsFurther : ℕ → End → List ℕ → Option (List ℕ) → Type 0
IsFurther most (Ok done) read left = (read ≡ []) × IsOver left
IsFurther most (Err ReadFault) read left = read ≡ []
IsFurther most (Err (Limit number)) read left = (number ≡ most) × (length read ≡ 1)
IsFurther most (Err _) read left = ⊥
