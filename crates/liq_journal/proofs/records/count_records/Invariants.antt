use Rattle.std.proofs.Common.{◌≡◌, IfSome}
use Rattle.liq_outside.specs.Disk.{Looked}
use Rattle.liq_journal.specs.Parts.{IsPartOf}
use Rattle.liq_journal.proofs.Counting.{ReadTo}
use Rattle.liq_journal.proofs.records.count_records.Given as goal

abbrev pub invariant-loop-count : goal.invariant-loop-count
invariant-loop-count g l = record {
  looked : Looked g.D.Disk.at l.fn.disk l.disk;
  part : IfSome (g.D.Disk.at l.disk).seen (IsPartOf l.block);
  still : (g.D.Disk.at l.disk).faults ≡ (g.D.Disk.at l.fn.disk).faults;
  read : IfSome (g.D.Disk.at l.fn.disk).seen (λ held. ReadTo l.generation l.start held l.count);
}
