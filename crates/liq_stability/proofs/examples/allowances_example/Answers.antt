use Rattle.std.proofs.Common.{refl}
use Rattle.liq_types.specs.Product.{least_from}
use Rattle.liq_stability.proofs.examples.allowances_example.Goals as goal

pub returns : goal.returns
unfolding least_from
returns c = record {
  paid_out_share = refl;
  paid_out = refl;
  begun_again = refl;
  emptied = refl;
  two_rises = refl;
  first = refl;
  second = refl;
  third = refl;
}
