use Rattle.liq_rule_sound.proofs.SoundPromises.{reached_exact}
use Rattle.liq_rule_sound.proofs.SoundSame.{same_exact}
use Rattle.liq_rule_sound.proofs.soundness.pools_of_runs_are_exact.Goals as goal

pub returns-clause-reached : goal.returns-clause-reached
returns-clause-reached c = reached_exact

pub returns-clause-same : goal.returns-clause-same
returns-clause-same c = same_exact
