use Rattle.std.proofs.Common.{◌≡◌, take, map}
use Rattle.liq_audit.specs.Auditable.{row_of}
use Rattle.liq_audit.proofs.auditor.audit.Given as goal

abbrev pub invariant-loop-account : goal.invariant-loop-account
invariant-loop-account l = l.rows.items ≡ map (row_of l.events) (take l.account-index l.engine)
