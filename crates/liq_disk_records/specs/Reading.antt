-- The number of a record that is read, what reading it tells, and the count of faults over it: it
-- rose exactly where a fault is the answer.
use Rattle.std.specs.Prelude.{◌≡◌, ◌≤◌, ℕ, List, length, Some, Result, Ok, Err}
use Rattle.liq_outside.specs.At.{DiskAt}
use Rattle.liq_types.specs.declared.requests.Command.{Command}
use Rattle.liq_journal.specs.Bodies.{IsJournalOf, IsRecorded}
use Rattle.liq_journal.specs.Causes.{Counted}
use Rattle.liq_journal.specs.Settled.{JournalOn}
use Rattle.liq_journal.specs.Written.{Written}
use Rattle.liq_journal.specs.declared.answers.LookFault.{LookFault}
use Rattle.liq_journal.specs.declared.answers.LookFault.TheVariants as look
use Rattle.liq_disk_records.specs.declared.answers.AcceptedFault.{AcceptedFault}
use Rattle.liq_disk_records.specs.declared.answers.AcceptedFault.TheVariants.{DiskFault, Damaged, NoMemory}

-- one of so many records, counted from 1
abbrev pub IsRecordNumber : ℕ → ℕ → Type 0
IsRecordNumber records index = (1 ≤ index) × (index ≤ records)

abbrev pub CountsFault : AcceptedFault → ℕ → ℕ → Type 0
CountsFault DiskFault before after = Counted before after
CountsFault (Damaged damage) before after = after ≡ before
CountsFault NoMemory before after = after ≡ before

abbrev pub CountsReading : {T : Type 0} → Result T AcceptedFault → ℕ → ℕ → Type 0
CountsReading (Ok read) before after = after ≡ before
CountsReading (Err why) before after = CountsFault why before after

-- a fault of a look, as one of reading
abbrev pub fault_of : LookFault → AcceptedFault
fault_of look.DiskFault = DiskFault
fault_of (look.Damaged damage) = Damaged damage

-- a fault of reading that is no damage
abbrev pub IsReadable : AcceptedFault → Type 0
IsReadable DiskFault = Unit {0}
IsReadable (Damaged damage) = ⊥
IsReadable NoMemory = Unit {0}

module _ {D : Type 0} (at : D → DiskAt) (journal : JournalOn D) (index : ℕ) where
  -- P holds of what is written, where the disk tells its content, this is the journal on it, and
  -- the journal has a record of this number.
  abbrev pub HoldsWhereTold : (Written → Type 0) → Type 0
  HoldsWhereTold P =
      (held : List ℕ) (w : Written) → (at journal.disk).seen ≡ Some held
      → IsJournalOf journal.generation journal.start held w → index ≤ length w.commands → P w

  -- this is the command of the record of this number
  abbrev pub IsCommandThere : Command → Type 0
  IsCommandThere c = HoldsWhereTold (λ w. IsRecorded w index c)

  -- a fault that is no damage, where that record is told
  abbrev pub IsReadableThere : AcceptedFault → Type 0
  IsReadableThere why = HoldsWhereTold (λ w. IsReadable why)
