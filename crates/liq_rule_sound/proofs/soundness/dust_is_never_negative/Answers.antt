use Rattle.liq_rule_sound.proofs.SoundPromises.{default_dust, reached_covered}
use Rattle.liq_rule_sound.proofs.SoundSame.{same_covered}
use Rattle.liq_rule_sound.proofs.soundness.dust_is_never_negative.Goals as goal

pub returns-clause-default_coll : goal.returns-clause-default_coll
returns-clause-default_coll c s h = (default_dust s h).0

pub returns-clause-default_debt : goal.returns-clause-default_debt
returns-clause-default_debt c s h = (default_dust s h).1

pub returns-clause-reached : goal.returns-clause-reached
returns-clause-reached c = reached_covered

pub returns-clause-same : goal.returns-clause-same
returns-clause-same c = same_covered
