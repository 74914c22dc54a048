use Rattle.liq_stability.proofs.Promise.{balance_at_most, gain_at_most, unrounded}
use Rattle.liq_stability.proofs.laws.shares_are_never_passed.Goals as goal

pub returns-clause-balance : goal.returns-clause-balance
returns-clause-balance c most served events lawful account = balance_at_most most served events lawful account

pub returns-clause-gain : goal.returns-clause-gain
returns-clause-gain c most served events lawful account = gain_at_most most served events lawful account

pub returns-clause-unrounded : goal.returns-clause-unrounded
returns-clause-unrounded c most served events lawful account d is = unrounded most served events lawful account d is
