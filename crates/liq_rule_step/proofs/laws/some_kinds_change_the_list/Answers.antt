use Rattle.liq_rule_step.proofs.Changing.{unchanged, changed}
use Rattle.liq_rule_step.proofs.laws.some_kinds_change_the_list.Goals as goal

pub returns-clause-others : goal.returns-clause-others
returns-clause-others c = unchanged

pub returns-clause-these : goal.returns-clause-these
returns-clause-these c = changed
