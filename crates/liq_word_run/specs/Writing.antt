-- What writing leaves of the replies that wait.
use Rattle.std.specs.Prelude.{ℕ, ◌≡◌, List, ◌++◌, Option, Result, Ok, Err}
use Rattle.liq_text_lines.specs.Writing.{Writes, WritesPart}
use Rattle.liq_word_exit.specs.declared.halts.Halt.{Halt}
use Rattle.liq_word_exit.specs.declared.halts.Halt.TheVariants.{WriteFault}

-- A front of what waited was written, and the rest still waits; or the sink met a fault within what
-- waited.
abbrev pub WritesFront :
    Result (Unit {0}) Halt → List ℕ → List ℕ → Option (List ℕ) → Option (List ℕ) → Type 0
WritesFront (Ok done) waited waits before after =
    (front : List ℕ) × Writes before front after × (waited ≡ front ++ waits)
WritesFront (Err WriteFault) waited waits before after = WritesPart before waited after
WritesFront (Err _) waited waits before after = ⊥
