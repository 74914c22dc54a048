use Rattle.std.proofs.Common.{◌≡◌, length}
use Rattle.liq_outside.specs.DiskInMemory.{StaysLeft}
use Rattle.liq_outside.proofs.crash.tear_range.Given as goal

abbrev pub invariant-loop-place : goal.invariant-loop-place
invariant-loop-place l = record {
  torn : StaysLeft l.at l.count l.fn.bytes.items l.bytes.items;
  same : length l.bytes.items ≡ length l.fn.bytes.items;
}
