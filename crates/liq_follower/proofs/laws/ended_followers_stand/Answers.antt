use Rattle.liq_follower.proofs.Phases.{ended_stands}
use Rattle.liq_follower.proofs.laws.ended_followers_stand.Goals as goal

pub returns : goal.returns
returns c bytes is over = ended_stands bytes c.args.follower.now is over
