use Rattle.liq_disk_pair.proofs.Behind.{behind_none, behind_rotated}
use Rattle.liq_disk_pair.proofs.laws.commands_stand_behind.Goals as goal

pub returns-clause-none : goal.returns-clause-none
returns-clause-none c = behind_none

pub returns-clause-rotated : goal.returns-clause-rotated
returns-clause-rotated c = behind_rotated
