-- What planning answers.
use Rattle.std.specs.Prelude.{◌≡◌, ◌+◌, ◌<◌, ◌++◌, map, Option, Result, Ok, Err, Some, None}
use Rattle.liq_types.specs.declared.amounts.TheConstants.{ACCOUNTS}
use Rattle.liq_types.specs.declared.replies.Done.{Done}
use Rattle.liq_types.specs.declared.replies.Refusal.{Refusal}
use Rattle.liq_types.specs.declared.requests.Call.{Call}
use Rattle.liq_types.specs.declared.requests.Command.{Command}
use Rattle.liq_types.specs.State.{State, client_of}
use Rattle.liq_core.specs.declared.turns.Turn.{Turn}
use Rattle.liq_core.specs.declared.turns.Turn.TheVariants.{Again, New}
use Rattle.liq_core.specs.declared.turns.PlanFault.{PlanFault}
use Rattle.liq_core.specs.declared.turns.PlanFault.TheVariants.{No, NoMemory}
use Rattle.liq_core.specs.declared.turns.Forecast.{Forecast}
use Rattle.liq_core.specs.Plan.{IsPlan, IsForecast}
use Rattle.liq_rule_step.specs.Lists.{CallPlansList, PlansList, VerbPlansList}
use Rattle.liq_rule_step.specs.Step.{Refused, Repeated, ruling, first_refusal, in_range, accounts, rules}

-- Planning gives the ruling. Only where a list is planned, all else being passed, may there be no
-- memory for it.
abbrev pub Plans : State → Command → Result Turn PlanFault → Type 0
Plans s c (Ok (Again kept)) = ruling s c ≡ Repeated kept
Plans s c (Ok (New plan)) = (plan.command ≡ c) × IsPlan s plan
Plans s c (Err (No refusal)) = ruling s c ≡ Refused refusal
Plans s c (Err NoMemory) = PlansList s c

-- the refusal of what the call's verb tests, or what it comes to
abbrev pub IsRuled : State → Call → Result Forecast Refusal → Type 0
IsRuled s call (Ok forecast) = (first_refusal (rules s call) ≡ None) × IsForecast s call forecast
IsRuled s call (Err refusal) = first_refusal (rules s call) ≡ Some refusal

-- the same of what plans a list, for which there may be no memory
abbrev pub Forecasts : State → Call → Result Forecast PlanFault → Type 0
Forecasts s call (Ok forecast) = IsRuled s call (Ok forecast)
Forecasts s call (Err (No refusal)) = IsRuled s call (Err refusal)
Forecasts s call (Err NoMemory) = VerbPlansList s call

-- the same of a call whose accounts may be out of range, which is refused first
abbrev pub ForecastsCall : State → Call → Result Forecast PlanFault → Type 0
ForecastsCall s call (Ok forecast) =
    (first_refusal (map in_range (accounts call) ++ rules s call) ≡ None)
    × IsForecast s call forecast
ForecastsCall s call (Err (No refusal)) = first_refusal (map in_range (accounts call)
    ++ rules s call) ≡ Some refusal
ForecastsCall s call (Err NoMemory) = CallPlansList s call

-- The reply that was kept of a command that comes again; nothing, where it is its client's next
-- one. Any other is refused.
abbrev pub IsKept : State → Command → Result (Option Done) Refusal → Type 0
IsKept s c (Ok None) = (c.client < ACCOUNTS) × (c.number ≡ (client_of s c.client).last + 1)
IsKept s c (Ok (Some kept)) = ruling s c ≡ Repeated kept
IsKept s c (Err refusal) = ruling s c ≡ Refused refusal
