use Rattle.std.proofs.Common.{refl, []}
use Rattle.liq_follower.proofs.Phases.{fed_by}
use Rattle.liq_follower.proofs.follower.Follower.new.Goals as goal

pub returns : goal.returns
returns c = fed_by [] _ (refl, c.with_limit.ensures) refl
