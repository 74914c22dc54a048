use Rattle.std.proofs.Common.{refl, arith}
use Rattle.liq_types.specs.Product.{least_from}
use Rattle.liq_types.specs.State.{opening}
use Rattle.liq_stability.specs.Examples.{at_the_least}
use Rattle.liq_stability.proofs.LawfulTests.{lawful_tested}
use Rattle.liq_stability.proofs.examples.rounded_upward_example.Goals as goal

pub returns : goal.returns
unfolding least_from
returns c = record {
  lawful = lawful_tested opening at_the_least refl;
  upward = refl;
  passed = omega arith;
  downward = refl;
}
