use Rattle.std.proofs.Common.{◌≡◌, ◌≤◌, length, take, vec_len, vec_capacity}
use Rattle.liq_order.specs.Chained.{rows_from}
use Rattle.liq_order.proofs.at_once.rows_of.Given as goal

abbrev pub invariant-loop-at : goal.invariant-loop-at
invariant-loop-at l = record {
  rows : l.rows.items ≡ rows_from 0 (take l.at l.entries);
  count : vec_len l.rows ≡ l.at;
  room : length l.entries ≤ vec_capacity l.rows;
}
