use Rattle.liq_rule_step.proofs.Opening.{opening_conserves}
use Rattle.liq_rule_step.proofs.laws.opening_a_trove_conserves.Goals as goal

pub returns : goal.returns
returns c s account coll borrow bound hint t r h = opening_conserves s account coll borrow bound t r h
