use Rattle.std.proofs.Common.{◌≡◌, take}
use Rattle.liq_core.specs.Core.{state_of}
use Rattle.liq_rule_step.specs.Liquidation.{all_liquidated, offset_events, victim_changes}
use Rattle.liq_core_lowest.specs.Victims.{course_of}
use Rattle.liq_core.proofs.engine.Protocol.told.Given as goal

abbrev pub invariant-loop-victim : goal.invariant-loop-victim
invariant-loop-victim l = record {
  course : l.course ≡ course_of (all_liquidated (state_of l.fn.self) 0 (take l.victim-index l.victims));
  events : l.told.events.items ≡ offset_events (state_of l.fn.self) (take l.victim-index l.victims);
  changes : l.told.changes.items ≡ victim_changes (state_of l.fn.self) (take l.victim-index l.victims);
}
