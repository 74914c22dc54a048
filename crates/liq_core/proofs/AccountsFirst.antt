-- A call is refused by its accounts first; where all are in range, by what its verb tests.
use Rattle.std.proofs.Common.{◌≡◌, sym, ◌∙◌}
use Rattle.std.specs.Prelude.{Result, Ok, Err, map}
use Rattle.liq_types.specs.declared.replies.Refusal.{Refusal}
use Rattle.liq_types.specs.declared.requests.Call.{Call}
use Rattle.liq_types.specs.State.{State}
use Rattle.liq_ledger.specs.Refusals.{ruled}
use Rattle.liq_rule_step.specs.Lists.{rules_before_list}
use Rattle.liq_rule_step.specs.Step.{accounts, in_range, rules}
use Rattle.liq_core.specs.declared.turns.Forecast.{Forecast}
use Rattle.liq_core.specs.declared.turns.PlanFault.{PlanFault}
use Rattle.liq_core.specs.declared.turns.PlanFault.TheVariants.{No, NoMemory}
use Rattle.liq_core.specs.Turn.{Forecasts, ForecastsCall}
use Rattle.liq_core.proofs.Reading.{allowed_so, refused_so}
use Rattle.liq_types.proofs.Refused.{passed}
use Rattle.liq_rule_step.proofs.Ruled.{some_first}

pub refused_range : (s : State) (call : Call) (refusal : Refusal) → Err refusal ≡ ruled (map in_range (accounts call))
    → ForecastsCall s call (Err (No refusal))
refused_range s call refusal h = some_first (map in_range (accounts call)) (rules s call) refusal
    (refused_so (map in_range (accounts call)) tt refusal (sym h))

pub passed_range : (s : State) (call : Call) (planned : Result Forecast PlanFault)
    → Ok tt ≡ ruled (map in_range (accounts call)) → Forecasts s call planned → ForecastsCall s call planned
passed_range s call (Ok forecast) h are = (
  passed (map in_range (accounts call)) (rules s call) (allowed_so (map in_range (accounts call)) tt tt
      (sym h)).0 ∙ are.0,
  are.1,
)
passed_range s call (Err (No refusal)) h are = passed (map in_range (accounts call)) (rules s call)
    (allowed_so (map in_range (accounts call)) tt tt (sym h)).0 ∙ are
passed_range s call (Err NoMemory) h are = (
  are.0,
  passed (map in_range (accounts call)) (rules_before_list s call)
      (allowed_so (map in_range (accounts call)) tt tt (sym h)).0 ∙ are.1,
)
