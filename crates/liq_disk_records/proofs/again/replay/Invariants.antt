use Rattle.std.proofs.Common.{◌≡◌, ◌+◌, ℕ, List, length, Some, IfSome}
use Rattle.liq_types.specs.State.{State}
use Rattle.liq_core.specs.Core.{StandsFor}
use Rattle.liq_journal.specs.Bodies.{IsJournalOf}
use Rattle.liq_outside.specs.Disk.{Looked}
use Rattle.liq_journal.specs.Parts.{IsPartOf}
use Rattle.liq_journal.specs.Written.{Written}
use Rattle.liq_disk_records.proofs.Replaying.{Reached}
use Rattle.liq_disk_records.proofs.again.replay.Given as goal

abbrev pub invariant-loop-done : goal.invariant-loop-done
invariant-loop-done g l = record {
  looked : Looked g.D.Disk.at l.fn.journal.disk l.journal.disk;
  same : l.journal ≡ record l.fn.journal { disk = l.journal.disk };
  part : IfSome (g.D.Disk.at l.journal.disk).seen (IsPartOf l.block);
  still : (g.D.Disk.at l.journal.disk).faults ≡ (g.D.Disk.at l.fn.journal.disk).faults;
  counted : l.protocol.records ≡ l.fn.protocol.records + l.done;
  generation : l.protocol.image.generation ≡ l.fn.protocol.image.generation;
  reached : (held : List ℕ) (w : Written) (s : State) → (g.D.Disk.at l.fn.journal.disk).seen ≡ Some held
      → IsJournalOf l.fn.journal.generation l.fn.journal.start held w → length w.commands ≡ l.fn.journal.count
      → StandsFor l.fn.protocol s → Reached s w.commands l.done l.protocol;
}
