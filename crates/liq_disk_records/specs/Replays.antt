-- What becomes of a journal's commands where they are made again.
use Rattle.std.specs.Prelude.{◌≡◌, ℕ, List, Result, Ok, Err}
use Rattle.liq_types.specs.declared.requests.Command.{Command}
use Rattle.liq_types.specs.State.{State}
use Rattle.liq_core.specs.Core.{Core, StandsFor}
use Rattle.liq_rule_step.specs.Step.{Allowed, ruling, after}
use Rattle.liq_disk_pair.specs.Replay.{replay}
use Rattle.liq_disk_replay.specs.Making.{IsDamageBy}
use Rattle.liq_disk_records.specs.declared.answers.AcceptedFault.{AcceptedFault}
use Rattle.liq_disk_records.specs.declared.answers.AcceptedFault.TheVariants as fault

-- What becomes of the record of this number in the state before it: its command is accepted there,
-- or damages it.
abbrev pub IsOutcome : State → Command → ℕ → Core → Result (Unit {0}) AcceptedFault → Type 0
IsOutcome s c index core (Ok done) = (ruling s c ≡ Allowed) × StandsFor core (after s c)
IsOutcome s c index core (Err fault.DiskFault) = Unit {0}
IsOutcome s c index core (Err (fault.Damaged damage)) = IsDamageBy s c index damage
IsOutcome s c index core (Err fault.NoMemory) = Unit {0}

-- all of them, from the first record on
abbrev pub Replays : State → List Command → Core → Result (Unit {0}) AcceptedFault → Type 0
Replays s commands core (Ok done) = (t : State) × (replay 1 s commands ≡ Ok t) × StandsFor core t
Replays s commands core (Err fault.DiskFault) = Unit {0}
Replays s commands core (Err (fault.Damaged damage)) = replay 1 s commands ≡ Err damage
Replays s commands core (Err fault.NoMemory) = Unit {0}
