use Rattle.liq_rule_step.proofs.Started.{started_image, started_formed}
use Rattle.liq_rule_step.proofs.laws.images_begin_states.Goals as goal

pub returns-clause-same : goal.returns-clause-same
returns-clause-same c = started_image

pub returns-clause-formed : goal.returns-clause-formed
returns-clause-formed c = started_formed
