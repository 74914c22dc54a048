use Rattle.std.proofs.Common.{refl}
use Rattle.liq_types.specs.Product.{least_from}
use Rattle.liq_stability.proofs.examples.own_operations_example.Goals as goal

pub returns : goal.returns
unfolding least_from
returns c = record {
  paid_out_first = refl;
  paid_out_second = refl;
  begun_again_first = refl;
  begun_again_second = refl;
}
