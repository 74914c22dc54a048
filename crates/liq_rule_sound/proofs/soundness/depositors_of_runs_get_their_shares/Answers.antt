use Rattle.liq_rule_sound.proofs.SoundPromises.{reached_shares, same_shares}
use Rattle.liq_rule_sound.proofs.soundness.depositors_of_runs_get_their_shares.Goals as goal

pub returns-clause-reached : goal.returns-clause-reached
returns-clause-reached c = reached_shares

pub returns-clause-same : goal.returns-clause-same
returns-clause-same c = same_shares
