use Rattle.std.proofs.Common.{refl}
use Rattle.liq_journal.specs.Written.{found_on}
use Rattle.liq_disk_pair.specs.Pair.{commands_on, journal_on, limit_on, standing, state_on}
use Rattle.liq_disk_pair.proofs.examples.empty_disks_example.Goals as goal

pub returns-clause-empty : goal.returns-clause-empty
unfolding state_on standing found_on
returns-clause-empty c = refl

pub returns-clause-short : goal.returns-clause-short
unfolding state_on standing found_on
returns-clause-short c = refl

pub returns-clause-none : goal.returns-clause-none
unfolding commands_on journal_on found_on
returns-clause-none c = refl

pub returns-clause-limit : goal.returns-clause-limit
unfolding limit_on journal_on found_on
returns-clause-limit c = refl
