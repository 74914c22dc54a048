use Rattle.std.specs.Prelude.{refl}
use Rattle.liq_num.specs.Power.{power_of, digits_product, squared}
use Rattle.liq_rate.proofs.examples.decay_example.Goals as goal

pub returns-clause-one : goal.returns-clause-one
unfolding power_of digits_product squared
returns-clause-one c = refl

pub returns-clause-two : goal.returns-clause-two
unfolding power_of digits_product squared
returns-clause-two c = refl
