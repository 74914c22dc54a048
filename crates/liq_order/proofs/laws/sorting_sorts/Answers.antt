use Rattle.liq_order.proofs.Sorting.{sorted_same, sorted_in_order}
use Rattle.liq_order.proofs.laws.sorting_sorts.Goals as goal

pub returns-clause-same : goal.returns-clause-same
returns-clause-same c = sorted_same

pub returns-clause-in_order : goal.returns-clause-in_order
returns-clause-in_order c = sorted_in_order
