use Rattle.liq_disk_pair.proofs.Commands.{commands_begun, commands_lead}
use Rattle.liq_disk_pair.proofs.laws.commands_lead_to_the_state.Goals as goal

pub returns-clause-first : goal.returns-clause-first
returns-clause-first c = commands_lead

pub returns-clause-begun : goal.returns-clause-begun
returns-clause-begun c = commands_begun
