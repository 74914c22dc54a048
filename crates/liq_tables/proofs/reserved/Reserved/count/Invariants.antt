use Rattle.std.proofs.Common.{◌≡◌, length}
use Rattle.liq_types.specs.Tables.{at}
use Rattle.liq_tables.specs.Pages.{listed}
use Rattle.liq_tables.proofs.reserved.Reserved.count.Given as goal

abbrev pub invariant-loop-key : goal.invariant-loop-key
invariant-loop-key g l = l.count ≡ length (listed (at l.fn.self.rows) 0 l.key)
