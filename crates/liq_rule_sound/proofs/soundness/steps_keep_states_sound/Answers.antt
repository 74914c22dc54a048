use Rattle.liq_types.specs.State.{opening_with}
use Rattle.liq_rule_sound.proofs.SoundStart.{opening_sound}
use Rattle.liq_rule_sound.proofs.SoundStep.{step_sound, run_sound}
use Rattle.liq_rule_sound.proofs.soundness.steps_keep_states_sound.Goals as goal

pub returns-clause-step : goal.returns-clause-step
returns-clause-step c = step_sound

pub returns-clause-run : goal.returns-clause-run
returns-clause-run c s h requests = run_sound requests s h

pub returns-clause-reached : goal.returns-clause-reached
returns-clause-reached c limit known requests = run_sound requests (opening_with limit) (opening_sound limit known)
