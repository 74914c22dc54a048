use Rattle.liq_rule_sound.proofs.SoundStart.{opening_sound, started_sound, started_with}
use Rattle.liq_rule_sound.proofs.soundness.sound_images_begin_sound_states.Goals as goal

pub returns-clause-opening : goal.returns-clause-opening
returns-clause-opening c = opening_sound

pub returns-clause-started : goal.returns-clause-started
returns-clause-started c = started_sound

pub returns-clause-counted : goal.returns-clause-counted
returns-clause-counted c = started_with
