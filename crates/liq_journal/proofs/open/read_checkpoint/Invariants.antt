use Rattle.std.proofs.Common.{◌≡◌, ◌+◌, ◌-◌, ◌≤◌, IfSome, length}
use Rattle.liq_outside.specs.Disk.{Looked}
use Rattle.liq_disk_header.specs.Layout.{piece}
use Rattle.liq_journal.proofs.open.read_checkpoint.Given as goal

abbrev pub invariant-loop-at : goal.invariant-loop-at
invariant-loop-at g l = record {
  looked : Looked g.D.Disk.at l.fn.disk l.disk;
  still : (g.D.Disk.at l.disk).faults ≡ (g.D.Disk.at l.fn.disk).faults;
  done : l.at ≡ l.place + length l.checkpoint.items;
  within : l.at ≤ l.end;
  read : IfSome (g.D.Disk.at l.fn.disk).seen (λ held. l.place + l.size ≤ length held
      → l.checkpoint.items ≡ piece l.place (length l.checkpoint.items) held);
}

abbrev pub decreases-loop-at : goal.decreases-loop-at
decreases-loop-at g l = l.end - l.at
