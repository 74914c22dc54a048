-- How a word that writes one text ends, before its last line.
use Rattle.std.specs.Prelude.{ℕ, ◌≡◌, List, Option, Ok, Err}
use Rattle.liq_text_lines.specs.Writing.{Writes, WritesPart}
use Rattle.liq_word_exit.specs.declared.halts.Halt.TheVariants.{WriteFault}
use Rattle.liq_word_exit.specs.Statuses.{End}

-- the text was written, or the sink met a fault within it, or nothing was written
abbrev pub WritesAll : List ℕ → End → Option (List ℕ) → Option (List ℕ) → Type 0
WritesAll text (Ok done) before now = Writes before text now
WritesAll text (Err WriteFault) before now = WritesPart before text now
WritesAll text (Err halt) before now = now ≡ before
