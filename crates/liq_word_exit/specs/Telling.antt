-- How a word ends that writes one text.
use Rattle.std.specs.Prelude.{ℕ, List, [], Option}
use Rattle.liq_word_exit.specs.Stops.{TellsBehind}
use Rattle.liq_word_exit.specs.Statuses.{End}

-- the text was written; or, where the word stopped, its last line alone
abbrev pub TellsAll : List ℕ → End → Type 0 → Option (List ℕ) → Option (List ℕ)
    → Type 0
TellsAll text end fault before now = TellsBehind [] text end fault before now
