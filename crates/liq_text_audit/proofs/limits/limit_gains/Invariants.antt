use Rattle.std.proofs.Common.{◌≡◌, ◌≤◌, take, drop}
use Rattle.liq_types.specs.declared.amounts.TheConstants.{LIM}
use Rattle.liq_types.specs.PlainLedger.{offsets_coll}
use Rattle.liq_text_audit.specs.Limits.{coll_above}
use Rattle.liq_text_audit.proofs.limits.limit_gains.Given as goal

abbrev pub invariant-loop-event : goal.invariant-loop-event
invariant-loop-event l = record {
  within : l.sum ≤ LIM;
  sum : l.sum ≡ offsets_coll (take l.event-index l.events);
  above : coll_above l.sum (drop l.event-index l.events) ≡ coll_above 0 l.events;
}
