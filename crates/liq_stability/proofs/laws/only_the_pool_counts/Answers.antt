use Rattle.std.proofs.Common.{refl, arith}
use Rattle.liq_types.specs.declared.amounts.TheConstants.{LIM}
use Rattle.liq_stability.specs.Own.{after_events}
use Rattle.liq_stability.proofs.PoolPart.{pool-event, lawful_alike, promise_alike}
use Rattle.liq_stability.proofs.Promise.{within_allowance}
use Rattle.liq_stability.proofs.laws.only_the_pool_counts.Goals as goal

pub returns-clause-positions : goal.returns-clause-positions
returns-clause-positions c s account = (refl, refl)

pub returns-clause-words : goal.returns-clause-words
returns-clause-words c s = refl

pub returns-clause-events : goal.returns-clause-events
returns-clause-events c s e = pool-event s e

pub returns-clause-lawful : goal.returns-clause-lawful
returns-clause-lawful c most s t same events h = lawful_alike most s t same events h

pub returns-clause-promise : goal.returns-clause-promise
returns-clause-promise c s events lawful same account = promise_alike s (after_events events) same account events
    (within_allowance LIM (omega arith) events lawful account)
