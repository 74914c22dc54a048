use Rattle.liq_follower.proofs.Beginnings.{beginning_goes}
use Rattle.liq_follower.proofs.laws.faults_stay.Goals as goal

pub returns : goal.returns
returns c bytes rest goes = beginning_goes bytes rest goes
