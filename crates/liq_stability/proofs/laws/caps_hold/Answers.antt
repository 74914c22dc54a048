use Rattle.liq_types.specs.Tables.{at}
use Rattle.liq_stability.proofs.Pool.{balance_within, gain_within}
use Rattle.liq_stability.proofs.laws.caps_hold.Goals as goal

pub returns-clause-balance : goal.returns-clause-balance
returns-clause-balance c s account = balance_within s (at s.deposits account)

pub returns-clause-gain : goal.returns-clause-gain
returns-clause-gain c s account = gain_within s (at s.deposits account)
