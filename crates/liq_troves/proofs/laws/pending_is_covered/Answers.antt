use Rattle.liq_troves.proofs.Standing.{pending_covered}
use Rattle.liq_troves.proofs.laws.pending_is_covered.Goals as goal

pub returns-clause-coll : goal.returns-clause-coll
returns-clause-coll c b h = (pending_covered b h).0

pub returns-clause-debt : goal.returns-clause-debt
returns-clause-debt c b h = (pending_covered b h).1
