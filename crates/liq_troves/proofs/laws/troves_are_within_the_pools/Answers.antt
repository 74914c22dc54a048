use Rattle.liq_troves.proofs.Standing.{trove_within, entire_within}
use Rattle.liq_troves.proofs.laws.troves_are_within_the_pools.Goals as goal

pub returns-clause-coll : goal.returns-clause-coll
returns-clause-coll c b account t there h = (trove_within b account t there h).coll

pub returns-clause-debt : goal.returns-clause-debt
returns-clause-debt c b account t there h = (trove_within b account t there h).debt

pub returns-clause-pending_coll : goal.returns-clause-pending_coll
returns-clause-pending_coll c b account t there h = (trove_within b account t there h).pending_coll

pub returns-clause-pending_debt : goal.returns-clause-pending_debt
returns-clause-pending_debt c b account t there h = (trove_within b account t there h).pending_debt

pub returns-clause-entire_coll : goal.returns-clause-entire_coll
returns-clause-entire_coll c b account t there h = (entire_within b account t there h).coll

pub returns-clause-entire_debt : goal.returns-clause-entire_debt
returns-clause-entire_debt c b account t there h = (entire_within b account t there h).debt

pub returns-clause-some_coll : goal.returns-clause-some_coll
returns-clause-some_coll c b account t there h = (entire_within b account t there h).some

pub returns-clause-least_debt : goal.returns-clause-least_debt
returns-clause-least_debt c b account t there h = (entire_within b account t there h).least
