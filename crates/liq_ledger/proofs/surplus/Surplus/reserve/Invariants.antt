use Rattle.std.proofs.Common.{◌≡◌, ℕ, ◌<◌, slice_index_or}
use Rattle.liq_tables.specs.WithRoom.{HasRoom, KeepsRoom}
use Rattle.liq_ledger.proofs.surplus.Surplus.reserve.Given as goal

abbrev pub invariant-loop-account : goal.invariant-loop-account
invariant-loop-account l = record {
  rows : l.self-inside.table.rows ≡ l.fn.self.rows;
  kept : KeepsRoom l.fn.self l.self-inside.table;
  room : (k : ℕ) → (d : ℕ) → k < l.account-index → HasRoom l.self-inside.table (slice_index_or l.accounts k d);
}
