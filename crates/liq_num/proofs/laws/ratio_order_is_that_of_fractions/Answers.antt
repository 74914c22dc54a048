use Rattle.liq_num.proofs.Fractions.{ratio_order-expanded, ratio_order-at_one_debt}
use Rattle.liq_num.proofs.laws.ratio_order_is_that_of_fractions.Goals as goal

pub returns-clause-expanded : goal.returns-clause-expanded
returns-clause-expanded c = ratio_order-expanded

pub returns-clause-at_one_debt : goal.returns-clause-at_one_debt
returns-clause-at_one_debt c = ratio_order-at_one_debt
