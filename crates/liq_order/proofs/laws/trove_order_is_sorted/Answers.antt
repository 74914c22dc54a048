use Rattle.liq_order.proofs.Sorting.{sorted_same, order_ascends}
use Rattle.liq_order.specs.Order.{ranks}
use Rattle.liq_order.proofs.laws.trove_order_is_sorted.Goals as goal

pub returns-clause-same : goal.returns-clause-same
returns-clause-same c troves = sorted_same (ranks troves)

pub returns-clause-ascending : goal.returns-clause-ascending
returns-clause-ascending c = order_ascends
