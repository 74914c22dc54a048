use Rattle.liq_rule_step.proofs.Counting.{values_count}
use Rattle.liq_rule_step.proofs.laws.replies_have_their_values.Goals as goal

pub returns : goal.returns
returns c = values_count
