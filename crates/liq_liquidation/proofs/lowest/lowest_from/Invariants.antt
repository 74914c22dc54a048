use Rattle.liq_liquidation.proofs.Walking.{Reached}
use Rattle.liq_liquidation.proofs.lowest.lowest_from.Given as goal

abbrev pub invariant-loop : goal.invariant-loop
invariant-loop l = Reached (record { figures = l.fn.figures; troves = l.troves.table.rows }) l.order.entries l.n
    l.counter l.figures l.victims.items l.last
