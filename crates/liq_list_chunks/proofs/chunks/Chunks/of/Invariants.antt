use Rattle.std.proofs.Common.{◌≡◌, length, ◌++◌}
use Rattle.liq_list_chunks.specs.Chunks.{AreShort, entries, lists}
use Rattle.liq_list_chunks.proofs.chunks.Chunks.of.Given as goal

abbrev pub invariant-loop-left : goal.invariant-loop-left
invariant-loop-left l = record {
  same_len : length l.firsts.items ≡ length l.rests.items;
  short : AreShort (lists l.rests);
  whole : entries l.firsts l.rests ++ l.left ≡ l.entries;
}

abbrev pub decreases-loop-left : goal.decreases-loop-left
decreases-loop-left l = length l.left
