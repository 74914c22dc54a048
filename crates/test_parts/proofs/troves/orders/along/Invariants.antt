use Rattle.std.proofs.Common.{List, Option}
use Rattle.liq_order.specs.declared.places.NodeNo.{NodeNo}
use Rattle.liq_order.specs.Nodes.{Visits}
use Rattle.liq_order.specs.Order.{Ranked}
use Rattle.test_parts.proofs.troves.orders.along.Given as goal

-- what is left is visited from the next place on
abbrev pub invariant-loop-account : goal.invariant-loop-account
invariant-loop-account g l =
    (previous : Option NodeNo) × ((left : List Ranked) × Visits l.nodes l.next previous left)
