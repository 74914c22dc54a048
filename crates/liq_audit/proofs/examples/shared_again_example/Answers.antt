use Rattle.std.proofs.Common.{refl}
use Rattle.liq_types.specs.Product.{least_from}
use Rattle.liq_audit.proofs.examples.shared_again_example.Goals as goal

pub returns : goal.returns
unfolding least_from
returns c = record {
  first = refl;
  first_balance = refl;
  first_gain = refl;
  second = refl;
  second_balance = refl;
  second_gain = refl;
  exact = refl;
}
