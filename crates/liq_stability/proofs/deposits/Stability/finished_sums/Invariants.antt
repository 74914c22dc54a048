use Rattle.std.proofs.Common.{◌≡◌, take, map}
use Rattle.liq_types.specs.ImageRows.{finished_row}
use Rattle.liq_stability.proofs.deposits.Stability.finished_sums.Given as goal

abbrev pub invariant-loop-sum : goal.invariant-loop-sum
invariant-loop-sum l = l.rows ≡ map finished_row (take l.sum-index l.sum-items)
