use Rattle.std.proofs.Common.{refl}
use Rattle.liq_journal.specs.Written.{found_on}
use Rattle.liq_disk_pair.specs.Pair.{standing, state_on}
use Rattle.liq_disk_pair.proofs.examples.damaged_disks_example.Goals as goal

pub returns-clause-left : goal.returns-clause-left
unfolding state_on standing found_on
returns-clause-left c = refl

pub returns-clause-right : goal.returns-clause-right
unfolding state_on standing found_on
returns-clause-right c = refl

pub returns-clause-both : goal.returns-clause-both
unfolding state_on standing found_on
returns-clause-both c = refl
