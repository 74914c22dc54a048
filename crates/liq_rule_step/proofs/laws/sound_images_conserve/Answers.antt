use Rattle.liq_rule_step.proofs.SoundRules.{sound_at_home}
use Rattle.liq_rule_step.proofs.laws.sound_images_conserve.Goals as goal

pub returns : goal.returns
returns c = sound_at_home
