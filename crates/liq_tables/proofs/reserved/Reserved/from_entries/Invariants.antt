use Rattle.std.proofs.Common.{◌≡◌, take}
use Rattle.liq_types.specs.Tables.{rows}
use Rattle.liq_tables.proofs.reserved.Reserved.from_entries.Given as goal

abbrev pub invariant-loop-row : goal.invariant-loop-row
invariant-loop-row g l = l.table.rows ≡ rows g.X.Row.used (take l.row-index l.entries)
