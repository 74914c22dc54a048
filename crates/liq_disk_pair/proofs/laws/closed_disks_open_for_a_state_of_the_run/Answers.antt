use Rattle.liq_disk_pair.proofs.Past.{closed_stands}
use Rattle.liq_disk_pair.proofs.laws.closed_disks_open_for_a_state_of_the_run.Goals as goal

pub returns : goal.returns
returns c = closed_stands
