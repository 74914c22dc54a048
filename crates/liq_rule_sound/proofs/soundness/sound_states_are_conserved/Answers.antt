use Rattle.liq_rule_step.specs.Step.{run}
use Rattle.liq_rule_sound.proofs.SoundFacts.{conserved_by}
use Rattle.liq_rule_sound.proofs.SoundStep.{run_sound}
use Rattle.liq_rule_sound.proofs.SoundTests.{sound_facts}
use Rattle.liq_rule_sound.proofs.soundness.sound_states_are_conserved.Goals as goal

pub returns-clause-state : goal.returns-clause-state
returns-clause-state c s h = let f = sound_facts s h in conserved_by s f.stands f.balanced.homes

pub returns-clause-run : goal.returns-clause-run
returns-clause-run c s h requests = let f = sound_facts (run s requests).0 (run_sound requests s h)
    in conserved_by (run s requests).0 f.stands f.balanced.homes
