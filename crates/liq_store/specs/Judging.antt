-- Which of two disks' faults is told.
use Rattle.std.specs.Prelude.{◌≡◌, ◌⊎◌, Result, Ok, Err}
use Rattle.liq_journal.specs.declared.damage.Damage.{Damage}
use Rattle.liq_disk_pair.specs.declared.side.Side.{Side}
use Rattle.liq_disk_pair.specs.declared.side.Side.TheVariants.{Left, Right}
use Rattle.liq_store.specs.declared.answers.StoreWhy.{StoreWhy}
use Rattle.liq_store.specs.declared.answers.StoreWhy.TheVariants as why
use Rattle.liq_disk_records.specs.declared.answers.AcceptedFault.{AcceptedFault}
use Rattle.liq_disk_records.specs.declared.answers.AcceptedFault.TheVariants as fault
use Rattle.liq_store.specs.declared.standing.StandFault.{StandFault}
use Rattle.liq_store.specs.declared.standing.Stood.{Stood}
use Rattle.liq_store.specs.declared.standing.Stood.TheVariants.{Nothing, Holding}
use Rattle.liq_store.specs.Standing.{IsFaultless}

abbrev pub disk_of : {D : Type 0} → Stood D → D
disk_of (Nothing disk) = disk
disk_of (Holding journal core) = journal.disk

abbrev pub on_side : Side → AcceptedFault → StoreWhy
on_side side fault.DiskFault = why.DiskFault
on_side side (fault.Damaged damage) = why.Damaged side damage
on_side side fault.NoMemory = why.NoMemory

abbrev pub first_of : AcceptedFault → AcceptedFault → StoreWhy
first_of left fault.DiskFault = why.DiskFault
first_of left _ = on_side Left left

-- the disk was not tested since its device failed
abbrev pub MetFault : {D : Type 0} → Result (Stood D) (StandFault D) → Type 0
MetFault (Ok stood) = ⊥
MetFault (Err met) = met.why ≡ fault.DiskFault

abbrev pub IsDamagedBy : {D : Type 0} → Damage → Result (Stood D) (StandFault D) → Type 0
IsDamagedBy damage (Ok stood) = ⊥
IsDamagedBy damage (Err met) = met.why ≡ fault.Damaged damage

abbrev pub IsFine : {D : Type 0} → Result (Stood D) (StandFault D) → Type 0
IsFine (Ok stood) = Unit {0}
IsFine (Err met) = ⊥

-- a device's fault where one was met; else the left disk's damage before the right one's
abbrev pub IsJudged : {D : Type 0}
    → Result (Stood D) (StandFault D) → Result (Stood D) (StandFault D) → StoreWhy → Type 0
IsJudged left right why.DiskFault = MetFault left ⊎ MetFault right
IsJudged left right (why.Damaged Left damage) = IsDamagedBy damage left × IsFaultless left
    × IsFaultless right
IsJudged left right (why.Damaged Right damage) =
    IsFine left × IsDamagedBy damage right × IsFaultless left × IsFaultless right
IsJudged left right why.NoMemory = IsFaultless left × IsFaultless right
