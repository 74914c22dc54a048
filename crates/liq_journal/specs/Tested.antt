-- What one record is found to be.
use Rattle.std.specs.Prelude.{◌≡◌, ℕ, ◌+◌, List, drop, Option, Some, None, true, false, Ok, Err}
use Rattle.liq_types.specs.declared.requests.Command.{Command}
use Rattle.liq_journal.specs.declared.answers.LookFault.{LookFault}
use Rattle.liq_journal.specs.declared.answers.LookFault.TheVariants as fault
use Rattle.liq_journal.specs.Records.{begins_whole}
use Rattle.liq_disk_header.specs.Layout.{piece}
use Rattle.liq_journal.specs.Written.{record_on}

-- the body that stands at the place, which is a command's, with the digest behind it
abbrev pub IsBodyRead : ℕ → ℕ → ℕ → List ℕ → List ℕ → Type 0
IsBodyRead generation index place held body =
    (body ≡ piece place 96 held)
    × ((command : Command) × (record_on generation index place (piece place 128 held) ≡ Ok command))

-- the first fault of the record of this number, which is at the place
abbrev pub IsFaultRead : ℕ → ℕ → ℕ → List ℕ → LookFault → Type 0
IsFaultRead generation index place held fault.DiskFault = Unit {0}
IsFaultRead generation index place held (fault.Damaged damage) =
    (damage.index ≡ index)
    × (record_on generation index place (piece place 128 held) ≡ Err damage.what)

-- the body of the whole record at the place; or there is none
abbrev pub IsTested : ℕ → ℕ → ℕ → List ℕ → Option (List ℕ) → Type 0
IsTested generation index place held None = begins_whole (drop place held) ≡ false
IsTested generation index place held (Some body) =
    (begins_whole (drop place held) ≡ true) × IsBodyRead generation index (place + 1) held body

-- the first fault of the whole record at the place
abbrev pub IsFaultOf : ℕ → ℕ → ℕ → List ℕ → LookFault → Type 0
IsFaultOf generation index place held fault.DiskFault = Unit {0}
IsFaultOf generation index place held (fault.Damaged damage) =
    (begins_whole (drop place held) ≡ true)
    × ((damage.index ≡ index)
    × (record_on generation index (place + 1) (piece (place + 1) 128 held) ≡ Err damage.what))
