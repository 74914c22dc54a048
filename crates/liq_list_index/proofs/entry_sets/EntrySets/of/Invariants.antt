use Rattle.std.proofs.Common.{◌≡◌, ◌++◌, take}
use Rattle.liq_list_index.specs.EntrySets.{AreParted}
use Rattle.liq_list_index.proofs.entry_sets.EntrySets.of.Given as goal

abbrev pub invariant-loop-place : goal.invariant-loop-place
invariant-loop-place l = record {
  parted : AreParted l.below l.shorts.items l.above;
  so_far : l.below ++ (l.shorts.items ++ l.above) ≡ take l.place-index l.list;
}
