use Rattle.liq_types.specs.State.{opening_with}
use Rattle.liq_rule_sound.proofs.SoundEvents.{run_follows}
use Rattle.liq_rule_sound.proofs.SoundStart.{opening_sound}
use Rattle.liq_rule_sound.proofs.soundness.events_of_runs_are_lawful.Goals as goal

pub returns-clause-run : goal.returns-clause-run
returns-clause-run c s h requests = (run_follows requests s h).lawful

pub returns-clause-opening : goal.returns-clause-opening
returns-clause-opening c limit known requests =
    (run_follows requests (opening_with limit) (opening_sound limit known)).lawful

pub returns-clause-owners : goal.returns-clause-owners
returns-clause-owners c s h requests = (run_follows requests s h).owners
