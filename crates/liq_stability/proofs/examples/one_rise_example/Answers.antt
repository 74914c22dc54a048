use Rattle.std.proofs.Common.{refl}
use Rattle.liq_types.specs.Product.{least_from}
use Rattle.liq_stability.proofs.examples.one_rise_example.Goals as goal

pub returns : goal.returns
unfolding least_from
returns c = refl
