use Rattle.liq_stability.proofs.Promise.{balance_at_least}
use Rattle.liq_stability.proofs.laws.balances_fall_short_by_little.Goals as goal

pub returns : goal.returns
returns c most served events lawful account = balance_at_least most served events lawful account
