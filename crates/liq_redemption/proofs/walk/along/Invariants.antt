use Rattle.std.proofs.Common.{◌≡◌, ◌+◌, length}
use Rattle.liq_types.specs.Ranked.{first_of, from_last}
use Rattle.liq_redemption.specs.Redemption.{cuts, first_net, redeemed, visited_by}
use Rattle.liq_redemption.specs.Walk.{all_cuts, first_net_of}
use Rattle.liq_redemption.proofs.Ahead.{ahead_of}
use Rattle.liq_redemption.proofs.Taking.{visits}
use Rattle.liq_redemption.proofs.walk.along.Given as goal

abbrev pub invariant-loop-next : goal.invariant-loop-next
invariant-loop-next l = record {
  next : l.next ≡ first_of (ahead_of (from_last l.order.entries) l.next);
  wanted : redeemed l.walk.cuts + l.walk.wanted ≡ l.amount;
  cuts : all_cuts l.price l.walk (visits l.price l.troves.sums l.troves.table.rows
      (ahead_of (from_last l.order.entries) l.next)) ≡ cuts l.price l.count l.amount
      (visited_by l.price l.troves.sums l.troves.table.rows l.order.entries);
  first : first_net_of l.walk (visits l.price l.troves.sums l.troves.table.rows
      (ahead_of (from_last l.order.entries) l.next))
      ≡ first_net (visited_by l.price l.troves.sums l.troves.table.rows l.order.entries);
}

abbrev pub decreases-loop-next : goal.decreases-loop-next
decreases-loop-next l = length (ahead_of (from_last l.order.entries) l.next)
