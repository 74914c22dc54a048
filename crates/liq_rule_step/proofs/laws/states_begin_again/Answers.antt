use Rattle.liq_rule_step.proofs.Begun.{finished_in, begins_again}
use Rattle.liq_rule_step.proofs.laws.states_begin_again.Goals as goal

pub returns-clause-finished : goal.returns-clause-finished
returns-clause-finished c = finished_in

pub returns-clause-same : goal.returns-clause-same
returns-clause-same c = begins_again
