use Rattle.std.proofs.Common.{◌≡◌, take}
use Rattle.liq_text_audit.specs.Paid.{paid_table}
use Rattle.liq_text_audit.proofs.paid.gains_paid.Given as goal

abbrev pub invariant-loop-event : goal.invariant-loop-event
invariant-loop-event l = l.paid.entries ≡ paid_table (take l.event-index l.events)
