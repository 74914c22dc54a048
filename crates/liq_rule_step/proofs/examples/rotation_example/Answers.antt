use Rattle.std.proofs.Common.{refl}
use Rattle.liq_num.specs.Power.{power_of, digits_product, squared}
use Rattle.liq_types.specs.Product.{least_from}
use Rattle.liq_rule_step.proofs.examples.rotation_example.Goals as goal

pub returns : goal.returns
unfolding least_from power_of digits_product squared
returns c = refl
