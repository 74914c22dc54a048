use Rattle.std.proofs.Common.{◌≡◌, ◌≤◌, ◌*◌, ◌^◌, take}
use Rattle.liq_types.proofs.Watching.{watched}
use Rattle.liq_audit.specs.Auditable.{offsets_in}
use Rattle.liq_audit.specs.Enclosure.{enclosed}
use Rattle.liq_audit.proofs.Watchers.{watcher_of}
use Rattle.liq_audit.proofs.auditor.audited.Given as goal

abbrev pub invariant-loop-event : goal.invariant-loop-event
invariant-loop-event l =
    (l.enclosure ≡ enclosed l.account (take l.event-index l.events))
    × (l.watcher ≡ watcher_of (watched l.account (take l.event-index l.events)))
    × (l.watcher.weight ≤ offsets_in (take l.event-index l.events) * 2 ^ 64)
