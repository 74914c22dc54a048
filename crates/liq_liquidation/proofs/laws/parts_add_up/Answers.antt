use Rattle.liq_liquidation.proofs.Parts.{parts_coll, parts_debt, cap_fits}
use Rattle.liq_liquidation.proofs.laws.parts_add_up.Goals as goal

pub returns-clause-coll : goal.returns-clause-coll
returns-clause-coll c = parts_coll

pub returns-clause-debt : goal.returns-clause-debt
returns-clause-debt c = parts_debt

pub returns-clause-cap : goal.returns-clause-cap
returns-clause-cap c = cap_fits
