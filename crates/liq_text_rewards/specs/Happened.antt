-- What a journal's commands do to the Stability Pool, and in which minutes.
use Rattle.std.specs.Prelude.{ℕ, List, [], ◌∷◌, fold}
use Rattle.liq_types.specs.declared.events.PoolEvent.{PoolEvent}
use Rattle.liq_types.specs.declared.requests.Command.{Command}
use Rattle.liq_types.specs.State.{State}
use Rattle.liq_rule_step.specs.Rules.{call_events}
use Rattle.liq_rule_step.specs.Step.{after}
use Rattle.liq_rewards.specs.Timed.{Timed}

-- one event more, in this minute: the latest stands first
abbrev pub happens : ℕ → List Timed → PoolEvent → List Timed
happens minute past e = record { minute = minute; event = e } ∷ past

-- behind what happened before: what each of a list of commands does, each allowed after those
-- before it, in the minute in which it is made
abbrev pub past_after : List Timed → State → List Command → List Timed
past_after past s [] = past
past_after past s (c ∷ cs) = past_after (fold (happens s.minute) past (call_events s c.call))
    (after s c) cs

-- the minute after all of them
abbrev pub minute_after : State → List Command → ℕ
minute_after s [] = s.minute
minute_after s (c ∷ cs) = minute_after (after s c) cs
