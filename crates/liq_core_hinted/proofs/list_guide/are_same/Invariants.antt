use Rattle.std.proofs.Common.{◌≡◌, take, length}
use Rattle.liq_core_hinted.proofs.list_guide.are_same.Given as goal

abbrev pub invariant-loop-i : goal.invariant-loop-i
invariant-loop-i l = (take l.i l.left ≡ take l.i l.right) × (length l.left ≡ length l.right)
