use Rattle.std.proofs.Common.{ap, ◌∙◌}
use Rattle.liq_follower.specs.Following.{Followed}
use Rattle.liq_follower.proofs.Phases.{fed_count}
use Rattle.liq_follower.proofs.follower.Follower.taken.Goals as goal

pub returns : goal.returns
returns c bytes is = ap (λ (f : Followed). f.taken) c.self.view_is ∙ fed_count bytes c.args.self.now is
