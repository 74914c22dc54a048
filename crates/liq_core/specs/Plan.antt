-- A planned command, the states on which it may be applied, and the rows that it wants.
use Rattle.std.specs.Prelude.{◌≡◌, ◌<◌, List, [], ◌∷◌}
use Rattle.std.specs.List.{AllByRecursion}
use Rattle.liq_types.specs.declared.amounts.TheConstants.{ACCOUNTS}
use Rattle.liq_types.specs.declared.events.ListChange.{ListChange}
use Rattle.liq_types.specs.declared.events.PoolEvent.{PoolEvent}
use Rattle.liq_types.specs.declared.replies.Done.{Done}
use Rattle.liq_types.specs.declared.replies.Reply.TheVariants.{Said}
use Rattle.liq_types.specs.declared.requests.Call.{Call}
use Rattle.liq_types.specs.declared.requests.Command.{Command}
use Rattle.liq_types.specs.declared.requests.Request.TheVariants.{Do}
use Rattle.liq_types.specs.State.{State}
use Rattle.liq_core.specs.declared.effects.Effect.{Effect}
use Rattle.liq_core.specs.declared.turns.Forecast.{Forecast}
use Rattle.liq_core.specs.Core.{Core, IsWithin, Room, StandsFor}
use Rattle.liq_rule_step.specs.Rules.{call_events, call_changes}
use Rattle.liq_rule_step.specs.Step.{Allowed, ruling, done_of, step}
use Rattle.liq_core.specs.Effects.{IsEffect, room_of}
use Rattle.liq_core.specs.Told.{events_in, changes_in}
use Rattle.liq_rule_step.specs.Verbs.{accounts}

-- a command that is allowed: its reply, what it does, and what others follow of it
pub record Plan : Type 0 where
  pub command : Command
  pub done : Done
  pub effect : Effect
  pub events : List PoolEvent
  pub changes : List ListChange

abbrev pub plan_of : Command → Forecast → Plan
plan_of command forecast =
    record {
      command = command;
      done = forecast.done;
      effect = forecast.effect;
      events = events_in forecast.events;
      changes = changes_in forecast.changes;
    }

-- all of an allowed call is as the state has it
pub record IsForecast (s : State) (call : Call) (forecast : Forecast) : Type 0 where
  pub done : forecast.done ≡ done_of s call
  pub effect : IsEffect s call forecast.effect
  pub events : events_in forecast.events ≡ call_events s call
  pub changes : changes_in forecast.changes ≡ call_changes s call

-- the command is allowed in the state, and all that is planned is as the state has it
pub record IsPlan (s : State) (plan : Plan) : Type 0 where
  pub allowed : ruling s plan.command ≡ Allowed
  pub done : plan.done ≡ done_of s plan.command.call
  pub effect : IsEffect s plan.command.call plan.effect
  pub events : plan.events ≡ call_events s plan.command.call
  pub changes : plan.changes ≡ call_changes s plan.command.call

-- the plan was made on what the core stands for
abbrev pub IsPlannedOn : Core → Plan → Type 0
IsPlannedOn core plan = (s : State) → StandsFor core s → IsPlan s plan

-- whatever the core stood for, it stands for the state after this command's step
abbrev pub MakesStep : Core → Command → Core → Type 0
MakesStep core c next = (s : State) → StandsFor core s → StandsFor next (step s (Do c)).0

-- and this is what that step replies
abbrev pub RepliesByStep : Core → Command → Done → Type 0
RepliesByStep core c done = (s : State) → StandsFor core s → (step s (Do c)).1 ≡ Said done

-- room for all that a planned command writes
abbrev pub room_for : Plan → Room
room_for plan = record (room_of plan.effect) { clients = plan.command.client ∷ [] }

-- there is a row for all that the planned command writes
abbrev pub HasRoom : Core → Plan → Type 0
HasRoom core plan = IsWithin (room_for plan) core.room

-- what holds of every planned command: its client and its accounts are in range
pub record IsSoundPlan (plan : Plan) : Type 0 where
  pub client : plan.command.client < ACCOUNTS
  pub accounts : AllByRecursion (λ account. account < ACCOUNTS) (accounts plan.command.call)
