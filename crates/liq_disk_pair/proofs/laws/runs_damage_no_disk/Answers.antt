use Rattle.liq_disk_pair.proofs.Past.{damaged_stood}
use Rattle.liq_disk_pair.proofs.laws.runs_damage_no_disk.Goals as goal

pub returns : goal.returns
returns c = damaged_stood
