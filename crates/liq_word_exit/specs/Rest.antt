-- What waits where a word ends, written.
use Rattle.std.specs.Prelude.{ℕ, ◌≡◌, List, Option, Err}
use Rattle.liq_text_lines.specs.Writing.{Writes, WritesPart}
use Rattle.liq_word_exit.specs.declared.halts.Halt.TheVariants.{WriteFault}
use Rattle.liq_word_exit.specs.Statuses.{End}

-- It was written and the word ends so; or the sink met a fault at it, which is the end.
pub data WritesRest
    (end : End) (rest : List ℕ) (before after : Option (List ℕ))
    (result : End) : Type 0 where
  whole : result ≡ end → Writes before rest after → WritesRest end rest before after result
  cut : result ≡ Err WriteFault → WritesPart before rest after
      → WritesRest end rest before after result
