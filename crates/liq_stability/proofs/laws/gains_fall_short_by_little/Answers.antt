use Rattle.liq_stability.proofs.Promise.{gain_at_least}
use Rattle.liq_stability.proofs.laws.gains_fall_short_by_little.Goals as goal

pub returns : goal.returns
returns c most served events lawful account = gain_at_least most served events lawful account
