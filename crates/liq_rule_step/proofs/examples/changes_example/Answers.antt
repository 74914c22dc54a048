use Rattle.std.proofs.Common.{refl}
use Rattle.liq_num.specs.Power.{power_of, digits_product, squared}
use Rattle.liq_types.specs.Product.{least_from}
use Rattle.liq_rule_step.proofs.examples.changes_example.Goals as goal

pub returns-clause-opened : goal.returns-clause-opened
unfolding least_from power_of digits_product squared
returns-clause-opened c = refl

pub returns-clause-liquidated : goal.returns-clause-liquidated
unfolding least_from power_of digits_product squared
returns-clause-liquidated c = refl

pub returns-clause-adjusted : goal.returns-clause-adjusted
unfolding least_from power_of digits_product squared
returns-clause-adjusted c = refl

pub returns-clause-adjusted_again : goal.returns-clause-adjusted_again
unfolding least_from power_of digits_product squared
returns-clause-adjusted_again c = refl

pub returns-clause-closed : goal.returns-clause-closed
unfolding least_from power_of digits_product squared
returns-clause-closed c = refl
