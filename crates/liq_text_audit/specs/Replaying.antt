-- The replay of a list of commands, for a review.
use Rattle.std.specs.Prelude.{◌≡◌, ◌⊎◌, ℕ, List, Ok, Err}
use Rattle.liq_types.specs.declared.events.PoolEvent.{PoolEvent}
use Rattle.liq_types.specs.declared.requests.Command.{Command}
use Rattle.liq_types.specs.State.{State, opening_with}
use Rattle.liq_core.specs.Core.{Core, StandsFor}
use Rattle.liq_rule_step.specs.Events.{events}
use Rattle.liq_journal.specs.declared.damage.Damage.{Damage}
use Rattle.liq_disk_pair.specs.Replay.{replay}
use Rattle.liq_disk_replay.specs.declared.fault.ReplayFault.{ReplayFault}
use Rattle.liq_disk_replay.specs.declared.fault.ReplayFault.TheVariants as retold
use Rattle.liq_text_audit.specs.declared.fault.ReviewFault.{ReviewFault}
use Rattle.liq_text_audit.specs.declared.fault.ReviewFault.TheVariants.{NoMemory}
use Rattle.liq_text_audit.specs.Reviewed.{stopped}

-- how a review fails where its replay does
abbrev pub fault_of_replay : ReplayFault → ReviewFault
fault_of_replay (retold.Damaged damage) = stopped damage
fault_of_replay retold.NoMemory = NoMemory

-- the core is that of the commands from the opening under this limit, and these are their events
pub record IsReplayed (limit : ℕ) (commands : List Command) (core : Core) (told : List PoolEvent) :
    Type 0 where
  pub state : State
  pub replays : replay 1 (opening_with limit) commands ≡ Ok state
  pub stands : StandsFor core state
  pub events_are : told ≡ events (opening_with limit) commands

-- what replaying a list of commands gives
abbrev pub StopsWithin : ℕ → List Command → ReviewFault → Type 0
StopsWithin limit commands fault =
    (fault ≡ NoMemory)
    ⊎ ((damage : Damage) × (fault ≡ stopped damage) × (replay 1 (opening_with limit) commands
    ≡ Err damage))
