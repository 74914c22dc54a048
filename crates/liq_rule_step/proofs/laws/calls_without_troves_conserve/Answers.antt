use Rattle.liq_rule_step.proofs.Conserving.{call_conserves}
use Rattle.liq_rule_step.proofs.laws.calls_without_troves_conserve.Goals as goal

pub returns : goal.returns
returns c = call_conserves
