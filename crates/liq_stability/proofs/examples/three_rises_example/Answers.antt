use Rattle.std.proofs.Common.{refl}
use Rattle.liq_types.specs.Product.{least_from}
use Rattle.liq_types.specs.State.{opening}
use Rattle.liq_stability.specs.Examples.{three_rises}
use Rattle.liq_stability.proofs.LawfulTests.{lawful_tested}
use Rattle.liq_stability.proofs.examples.three_rises_example.Goals as goal

pub returns : goal.returns
unfolding least_from
returns c = record {
  lawful = lawful_tested opening three_rises refl;
  words = refl;
  finished = refl;
  first = refl;
  second = refl;
}
