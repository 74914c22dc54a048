use Rattle.std.proofs.Common.{◌≡◌, ◌≤◌, take}
use Rattle.liq_audit.specs.Auditable.{offsets_in}
use Rattle.liq_audit.proofs.auditor.count_offsets.Given as goal

abbrev pub invariant-loop-event : goal.invariant-loop-event
invariant-loop-event l = (l.count ≤ l.event-index) × (l.count ≡ offsets_in (take l.event-index l.events))
