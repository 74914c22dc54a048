use Rattle.liq_disk_pair.proofs.Recovering.{settled_again, settled_state}
use Rattle.liq_disk_pair.proofs.laws.settled_pairs_are_opened_again.Goals as goal

pub returns-clause-state : goal.returns-clause-state
returns-clause-state c = settled_state

pub returns-clause-settled : goal.returns-clause-settled
returns-clause-settled c = settled_again
