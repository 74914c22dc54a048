use Rattle.std.proofs.Common.{refl, arith}
use Rattle.liq_num.specs.Power.{power_of, digits_product, squared}
use Rattle.liq_types.specs.Product.{least_from}
use Rattle.liq_rule_step.proofs.examples.events_example.Goals as goal

pub returns-clause-events : goal.returns-clause-events
unfolding least_from power_of digits_product squared
returns-clause-events c = refl

pub returns-clause-lawful : goal.returns-clause-lawful
unfolding least_from power_of digits_product squared
returns-clause-lawful c = (
  record { total = omega arith; coll = omega arith },
  record { gain_is = refl; paid_is = omega arith; amount_is = refl },
  (
    record { total = omega arith; coll = omega arith },
    record { some = omega arith; within = omega arith; total_is = refl; coll_is = omega arith; rise_is = refl },
    (
      record { total = omega arith; coll = omega arith },
      record { gain_is = refl; paid_is = omega arith; amount_is = refl },
      record { total = omega arith; coll = omega arith },
    ),
  ),
)
