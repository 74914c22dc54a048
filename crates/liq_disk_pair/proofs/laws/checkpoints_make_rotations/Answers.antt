use Rattle.liq_disk_pair.proofs.Turning.{made_rotation}
use Rattle.liq_disk_pair.proofs.laws.checkpoints_make_rotations.Goals as goal

pub returns : goal.returns
returns c = made_rotation
