-- What commands do to the Stability Pool, as others follow it.
use Rattle.std.specs.Prelude.{List, [], ◌∷◌, ◌++◌}
use Rattle.liq_types.specs.declared.events.PoolEvent.{PoolEvent}
use Rattle.liq_types.specs.declared.requests.Command.{Command}
use Rattle.liq_types.specs.State.{State}
use Rattle.liq_rule_step.specs.Rules.{call_events}
use Rattle.liq_rule_step.specs.Step.{after}

-- the events of a list of commands, each allowed after those before it
abbrev pub events : State → List Command → List PoolEvent
events s [] = []
events s (c ∷ cs) = call_events s c.call ++ events (after s c) cs
