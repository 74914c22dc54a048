use Rattle.liq_troves.proofs.Standing.{some_stake, stakes_within, stake_within}
use Rattle.liq_troves.proofs.laws.stakes_stay_within.Goals as goal

pub returns-clause-some : goal.returns-clause-some
returns-clause-some c = some_stake

pub returns-clause-coll : goal.returns-clause-coll
returns-clause-coll c = stakes_within

pub returns-clause-least : goal.returns-clause-least
returns-clause-least c snap_stakes snap_coll coll less some = (stake_within snap_stakes snap_coll coll less some).some

pub returns-clause-most : goal.returns-clause-most
returns-clause-most c snap_stakes snap_coll coll less some = (stake_within snap_stakes snap_coll coll less some).within
