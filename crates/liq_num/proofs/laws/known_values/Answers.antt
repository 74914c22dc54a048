use Rattle.std.proofs.Common.{refl}
use Rattle.liq_num.specs.Power.{power_of, digits_product, squared}
use Rattle.liq_num.proofs.laws.known_values.Goals as goal

pub returns-clause-power_0 : goal.returns-clause-power_0
unfolding power_of digits_product squared
returns-clause-power_0 c = refl

pub returns-clause-power_1 : goal.returns-clause-power_1
unfolding power_of digits_product squared
returns-clause-power_1 c = refl

pub returns-clause-power_2 : goal.returns-clause-power_2
unfolding power_of digits_product squared
returns-clause-power_2 c = refl

pub returns-clause-half_a_day : goal.returns-clause-half_a_day
unfolding power_of digits_product squared
returns-clause-half_a_day c = refl

pub returns-clause-most : goal.returns-clause-most
unfolding power_of digits_product squared
returns-clause-most c = refl

pub returns-clause-past_most : goal.returns-clause-past_most
unfolding power_of digits_product squared
returns-clause-past_most c = refl
