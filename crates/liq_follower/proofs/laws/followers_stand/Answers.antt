use Rattle.liq_follower.proofs.Phases.{stands_for_it}
use Rattle.liq_follower.proofs.laws.followers_stand.Goals as goal

pub returns : goal.returns
returns c bytes s is lead = stands_for_it bytes c.args.follower.now s is lead
