use Rattle.std.proofs.Common.{◌≡◌}
use Rattle.liq_rewards.specs.Rows.{changed_by}
use Rattle.liq_rewards.proofs.Changing.{changed}
use Rattle.liq_rewards.proofs.rows.change_all.Given as goal

abbrev pub invariant-loop-row : goal.invariant-loop-row
invariant-loop-row l = l.rows ≡ changed l.row-index (changed_by l.words l.sharing l.event l.offsets 0) l.initial.rows
