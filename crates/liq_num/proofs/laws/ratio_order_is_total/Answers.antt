use Rattle.liq_num.proofs.Fractions.{IsBelow_trans, ratio_order-equal_alike}
use Rattle.liq_num.proofs.laws.ratio_order_is_total.Goals as goal

pub returns-clause-transitive : goal.returns-clause-transitive
returns-clause-transitive c = IsBelow_trans

pub returns-clause-equal_alike : goal.returns-clause-equal_alike
returns-clause-equal_alike c = ratio_order-equal_alike
