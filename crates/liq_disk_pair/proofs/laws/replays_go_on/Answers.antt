use Rattle.liq_disk_pair.proofs.Replaying.{replay_then}
use Rattle.liq_disk_pair.proofs.laws.replays_go_on.Goals as goal

pub returns : goal.returns
returns g s end commands c = replay_then 1 s end commands c
