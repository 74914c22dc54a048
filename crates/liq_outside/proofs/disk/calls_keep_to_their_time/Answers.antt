use Rattle.liq_outside.proofs.Moments.{law}
use Rattle.liq_outside.proofs.disk.calls_keep_to_their_time.Goals as goal

pub returns : goal.returns
returns g c = λ old new goes. law g.D.Disk.at old new goes
