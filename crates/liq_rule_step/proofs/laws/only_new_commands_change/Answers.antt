use Rattle.liq_rule_step.proofs.Runs.{refused_stays, repeated_stays}
use Rattle.liq_rule_step.proofs.laws.only_new_commands_change.Goals as goal

pub returns-clause-refused : goal.returns-clause-refused
returns-clause-refused c = refused_stays

pub returns-clause-repeated : goal.returns-clause-repeated
returns-clause-repeated c = repeated_stays
