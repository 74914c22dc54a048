use Rattle.liq_journal.proofs.Bodies.{found_no_rotation}
use Rattle.liq_disk_pair.proofs.Commands.{one_of_two, state_limit}
use Rattle.liq_disk_pair.proofs.Generations.{outcome_limit}
use Rattle.liq_disk_pair.proofs.laws.journals_keep_their_limit.Goals as goal

pub returns-clause-state : goal.returns-clause-state
returns-clause-state c odd bytes w s found came = outcome_limit w s (found_no_rotation odd bytes w found) came

pub returns-clause-pair : goal.returns-clause-pair
returns-clause-pair c = state_limit

pub returns-clause-two : goal.returns-clause-two
returns-clause-two c = one_of_two
