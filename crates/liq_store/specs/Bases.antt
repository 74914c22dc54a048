-- What becomes of a journal's beginning.
use Rattle.std.specs.Prelude.{◌≡◌, Result, Ok, Err}
use Rattle.liq_types.specs.State.{State}
use Rattle.liq_core.specs.Core.{Core, StandsFor}
use Rattle.liq_journal.specs.declared.damage.Damage.{Damage}
use Rattle.liq_disk_records.specs.declared.answers.AcceptedFault.{AcceptedFault}
use Rattle.liq_disk_records.specs.declared.answers.AcceptedFault.TheVariants as fault

-- What becomes of a beginning: a protocol for the state, or the damage of the checkpoint.
abbrev pub BeginsTo : Result State Damage → Result Core AcceptedFault → Type 0
BeginsTo base (Ok core) = (s : State) × (base ≡ Ok s) × StandsFor core s
BeginsTo base (Err fault.DiskFault) = Unit {0}
BeginsTo base (Err (fault.Damaged damage)) = base ≡ Err damage
BeginsTo base (Err fault.NoMemory) = Unit {0}
