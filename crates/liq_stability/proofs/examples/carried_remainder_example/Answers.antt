use Rattle.std.proofs.Common.{refl, arith}
use Rattle.liq_types.specs.Product.{least_from}
use Rattle.liq_types.specs.State.{opening}
use Rattle.liq_stability.specs.Examples.{after_another}
use Rattle.liq_stability.proofs.LawfulTests.{lawful_tested}
use Rattle.liq_stability.proofs.examples.carried_remainder_example.Goals as goal

pub returns : goal.returns
unfolding least_from
returns c = record {
  lawful = lawful_tested opening after_another refl;
  carried = refl;
  passed = omega arith;
  dropped = refl;
}
