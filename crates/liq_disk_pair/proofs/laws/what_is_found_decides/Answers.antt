use Rattle.liq_disk_pair.proofs.Commands.{commands_alike, limit_alike}
use Rattle.liq_disk_pair.proofs.Standings.{state_alike}
use Rattle.liq_disk_pair.proofs.laws.what_is_found_decides.Goals as goal

pub returns-clause-state : goal.returns-clause-state
returns-clause-state c = state_alike

pub returns-clause-commands : goal.returns-clause-commands
returns-clause-commands c = commands_alike

pub returns-clause-limit : goal.returns-clause-limit
returns-clause-limit c = limit_alike
