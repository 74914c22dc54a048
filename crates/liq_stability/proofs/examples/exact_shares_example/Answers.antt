use Rattle.std.proofs.Common.{refl, arith}
use Rattle.liq_types.specs.Product.{least_from}
use Rattle.liq_stability.proofs.examples.exact_shares_example.Goals as goal

pub returns : goal.returns
unfolding least_from
returns c = record {
  first = refl;
  second = refl;
  first_within = record {
    balance_at_most = omega arith;
    gain_at_most = omega arith;
    balance_at_least = omega arith;
    gain_at_least = omega arith;
  };
  second_within = record {
    balance_at_most = omega arith;
    gain_at_most = omega arith;
    balance_at_least = omega arith;
    gain_at_least = omega arith;
  };
}
