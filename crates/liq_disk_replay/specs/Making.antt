-- What becomes of a command that is made again.
use Rattle.std.specs.Prelude.{◌≡◌, ◌⊎◌, ℕ, Result, Ok, Err}
use Rattle.liq_types.specs.declared.requests.Command.{Command}
use Rattle.liq_types.specs.State.{State}
use Rattle.liq_rule_step.specs.Lists.{PlansList}
use Rattle.liq_rule_step.specs.Step.{Allowed, after, ruling}
use Rattle.liq_core.specs.Core.{Core, StandsFor}
use Rattle.liq_journal.specs.declared.damage.Damage.{Damage}
use Rattle.liq_disk_pair.specs.Replay.{replayed}
use Rattle.liq_disk_replay.specs.declared.fault.ReplayFault.{ReplayFault}
use Rattle.liq_disk_replay.specs.declared.fault.ReplayFault.TheVariants.{Damaged, NoMemory}

-- memory may be wanted for this command: the rules allow it, or a list of troves is planned for it
abbrev pub MayWantMemory : State → Command → Type 0
MayWantMemory s c = (ruling s c ≡ Allowed) ⊎ PlansList s c

-- a command that is not accepted damages its record, whichever it is and whatever follows it
abbrev pub IsDamageBy : State → Command → ℕ → Damage → Type 0
IsDamageBy s c index damage = (rest : Result State Damage) → replayed index (ruling s c) rest
    ≡ Err damage

-- the command of this number is not accepted, for this reason; or memory may be wanted for it
abbrev pub IsUnmade : State → Command → ℕ → ReplayFault → Type 0
IsUnmade s c index (Damaged damage) = IsDamageBy s c index damage
IsUnmade s c index NoMemory = MayWantMemory s c

-- the command of this number, made again in this state: its step is made, or none
abbrev pub Replays : State → Command → ℕ → Core → Result (Unit {0}) ReplayFault → Type 0
Replays s c index core (Ok done) = (ruling s c ≡ Allowed) × StandsFor core (after s c)
Replays s c index core (Err fault) = IsUnmade s c index fault × StandsFor core s
