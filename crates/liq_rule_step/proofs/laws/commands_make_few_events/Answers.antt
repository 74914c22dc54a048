use Rattle.liq_rule_step.proofs.Counting.{events_count, run_events_count}
use Rattle.liq_rule_step.proofs.laws.commands_make_few_events.Goals as goal

pub returns-clause-one : goal.returns-clause-one
returns-clause-one c = events_count

pub returns-clause-run : goal.returns-clause-run
returns-clause-run c s requests = run_events_count requests s
