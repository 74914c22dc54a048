-- The body of one record of a journal.
use Rattle.std.specs.Prelude.{◌≡◌, ℕ, ◌+◌, ◌*◌, ◌-◌, List, length, slice_get, Some, Err}
use Rattle.liq_types.specs.declared.requests.Command.{Command}
use Rattle.liq_journal.specs.declared.answers.LookFault.{LookFault}
use Rattle.liq_journal.specs.declared.answers.LookFault.TheVariants as fault
use Rattle.liq_disk_header.specs.Layout.{piece}
use Rattle.liq_journal.specs.Written.{Written, Open, found_on, record_on, start_of}
use Rattle.liq_journal.specs.Crash.{IsBodyOf}
use Rattle.liq_disk_header.specs.Header.{is_odd}

-- the journal of this generation whose records begin at this place
pub record IsJournalOf (generation start : ℕ) (bytes : List ℕ) (w : Written) : Type 0 where
  pub found : found_on (is_odd generation) bytes ≡ Open w
  pub generation_is : w.generation ≡ generation
  pub start_is : start_of w ≡ start

-- where the body of a record stands, the records being numbered from 1
abbrev pub body_at : ℕ → ℕ → ℕ
body_at start index = start + 129 * (index - 1) + 1

-- the command of the record of this number
abbrev pub IsRecorded : Written → ℕ → Command → Type 0
IsRecorded w index command = slice_get w.commands (index - 1) ≡ Some command

-- The body of the accepted record of this number: it stands in its place, and spells the record's
-- command.
pub record IsAccepted
    (start : ℕ) (bytes : List ℕ) (w : Written) (index : ℕ) (body : List ℕ) : Type 0 where
  pub there : body ≡ piece (body_at start index) 96 bytes
  pub command : Command
  pub recorded : IsRecorded w index command
  pub spelled : IsBodyOf body command

-- Why there is no body at this place: the bytes of the record have another digest than the one
-- behind them, or are no command.
abbrev pub IsBodyFault : ℕ → ℕ → ℕ → LookFault → Type 0
IsBodyFault generation index place fault.DiskFault = Unit {0}
IsBodyFault generation index place (fault.Damaged damage) =
    (damage.index ≡ index)
    × ((raw : List ℕ) × (length raw ≡ 128)
    × (record_on generation index place raw ≡ Err damage.what))
