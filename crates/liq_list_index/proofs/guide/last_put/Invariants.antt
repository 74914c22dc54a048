use Rattle.std.proofs.Common.{◌≡◌, take}
use Rattle.liq_list_index.specs.Followed.{last_put}
use Rattle.liq_list_index.proofs.guide.last_put.Given as goal

abbrev pub invariant-loop-change : goal.invariant-loop-change
invariant-loop-change l = l.put ≡ last_put (take l.change-index l.changes)
