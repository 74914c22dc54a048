use Rattle.std.proofs.Common.{refl}
use Rattle.liq_types.specs.Product.{least_from}
use Rattle.liq_types.specs.State.{opening}
use Rattle.liq_stability.specs.Examples.{four_scales_on, shared_again, paid_out, begun_again}
use Rattle.liq_stability.proofs.LawfulTests.{lawful_tested}
use Rattle.liq_stability.proofs.examples.lists_are_lawful_example.Goals as goal

pub returns : goal.returns
unfolding least_from
returns c = record {
  four_scales_on = lawful_tested opening four_scales_on refl;
  shared_again = lawful_tested opening shared_again refl;
  paid_out = lawful_tested opening paid_out refl;
  begun_again = lawful_tested opening begun_again refl;
}
