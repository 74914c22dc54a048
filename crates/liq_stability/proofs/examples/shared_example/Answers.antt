use Rattle.std.proofs.Common.{refl}
use Rattle.liq_types.specs.Product.{least_from}
use Rattle.liq_stability.proofs.examples.shared_example.Goals as goal

pub returns : goal.returns
unfolding least_from
returns c = record {
  words = refl;
  first = refl;
  second = refl;
  words_again = refl;
  first_again = refl;
  second_again = refl;
}
