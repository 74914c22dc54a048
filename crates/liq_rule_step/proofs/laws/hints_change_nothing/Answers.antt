use Rattle.liq_rule_step.proofs.Runs.{hints_idle}
use Rattle.liq_rule_step.proofs.laws.hints_change_nothing.Goals as goal

pub returns : goal.returns
returns c = hints_idle
