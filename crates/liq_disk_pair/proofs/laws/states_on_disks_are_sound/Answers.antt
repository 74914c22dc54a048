use Rattle.liq_disk_pair.proofs.Formed.{state_sound}
use Rattle.liq_disk_pair.proofs.laws.states_on_disks_are_sound.Goals as goal

pub returns : goal.returns
returns c = state_sound
