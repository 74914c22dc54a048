use Rattle.std.proofs.Common.{◌≡◌, take}
use Rattle.liq_core.proofs.image.client_rows.Given as goal

abbrev pub invariant-loop-client : goal.invariant-loop-client
invariant-loop-client l = l.rows ≡ take l.client-index l.client-items
