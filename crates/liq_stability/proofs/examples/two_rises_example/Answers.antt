use Rattle.std.proofs.Common.{refl}
use Rattle.liq_types.specs.Product.{least_from}
use Rattle.liq_stability.proofs.examples.two_rises_example.Goals as goal

pub returns : goal.returns
unfolding least_from
returns c = record { words = refl; finished = refl; first = refl; second = refl }
