use Rattle.std.specs.List.Sorted.{IsStrictlySortedBy}
use Rattle.liq_types.specs.State.{opening_with}
use Rattle.liq_rule_step.proofs.Ascending.{step-ascends, run-ascends}
use Rattle.liq_rule_step.proofs.laws.tables_stay_in_order.Goals as goal

pub returns-clause-step : goal.returns-clause-step
returns-clause-step c s h request = (step-ascends s request (record { tables = h })).tables

pub returns-clause-run : goal.returns-clause-run
unfolding IsStrictlySortedBy
returns-clause-run c limit requests =
    (run-ascends requests (opening_with limit) (record { tables = (tt, tt, tt, tt, tt) })).tables
