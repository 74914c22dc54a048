use Rattle.liq_journal.proofs.Bodies.{found_no_rotation}
use Rattle.liq_disk_pair.proofs.Generations.{found_parity, outcome_generation}
use Rattle.liq_disk_pair.proofs.Keeping.{settled_from_one, settled_parity}
use Rattle.liq_disk_pair.proofs.laws.generations_have_their_sides.Goals as goal

pub returns-clause-state : goal.returns-clause-state
returns-clause-state c odd bytes w s found came = outcome_generation w s (found_no_rotation odd bytes w found) came

pub returns-clause-parity : goal.returns-clause-parity
returns-clause-parity c = found_parity

pub returns-clause-settled : goal.returns-clause-settled
returns-clause-settled c = settled_parity

pub returns-clause-from_one : goal.returns-clause-from_one
returns-clause-from_one c = settled_from_one
