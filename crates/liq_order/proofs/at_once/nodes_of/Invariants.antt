use Rattle.std.proofs.Common.{◌≡◌, ◌≤◌, length, take, vec_len, vec_capacity}
use Rattle.liq_order.specs.Chained.{chained}
use Rattle.liq_order.proofs.at_once.nodes_of.Given as goal

abbrev pub invariant-loop-at : goal.invariant-loop-at
invariant-loop-at l = record {
  nodes : l.nodes.items ≡ chained (length l.entries) 0 (take l.at l.entries);
  count : vec_len l.nodes ≡ l.at;
  room : length l.entries ≤ vec_capacity l.nodes;
}
