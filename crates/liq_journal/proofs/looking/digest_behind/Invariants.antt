use Rattle.std.proofs.Common.{◌≡◌, ◌+◌, ◌-◌, ◌≤◌, ◌++◌, IfSome, length}
use Rattle.sha2.specs.Hashers.{Holds256}
use Rattle.liq_outside.specs.Disk.{Looked}
use Rattle.liq_disk_header.specs.Layout.{piece}
use Rattle.liq_journal.proofs.looking.digest_behind.Given as goal

abbrev pub invariant-loop-done : goal.invariant-loop-done
invariant-loop-done g l = record {
  looked : Looked g.D.Disk.at l.fn.disk l.disk;
  still : (g.D.Disk.at l.disk).faults ≡ (g.D.Disk.at l.fn.disk).faults;
  within : l.done ≤ l.size;
  read : IfSome (g.D.Disk.at l.fn.disk).seen (λ held. l.place + l.size ≤ length held
      → Holds256 l.hasher (l.fields ++ piece l.place l.done held));
}

abbrev pub decreases-loop-done : goal.decreases-loop-done
decreases-loop-done g l = l.size - l.done
