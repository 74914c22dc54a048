use Rattle.liq_rule_step.proofs.Histories.{legal-empty, legal-snoc, state-snoc}
use Rattle.liq_rule_step.proofs.laws.histories_grow.Goals as goal

pub returns-clause-empty : goal.returns-clause-empty
returns-clause-empty c = legal-empty

pub returns-clause-legal : goal.returns-clause-legal
returns-clause-legal c = legal-snoc

pub returns-clause-state : goal.returns-clause-state
returns-clause-state c = state-snoc
