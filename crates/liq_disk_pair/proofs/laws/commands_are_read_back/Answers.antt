use Rattle.liq_disk_pair.proofs.Behind.{read_events}
use Rattle.liq_disk_pair.proofs.Heard.{found_read_back}
use Rattle.liq_disk_pair.proofs.Hints.{heard_after, heard_ruling}
use Rattle.liq_disk_pair.proofs.laws.commands_are_read_back.Goals as goal

pub returns-clause-found : goal.returns-clause-found
returns-clause-found c = found_read_back

pub returns-clause-ruling : goal.returns-clause-ruling
returns-clause-ruling c = heard_ruling

pub returns-clause-after : goal.returns-clause-after
returns-clause-after c = heard_after

pub returns-clause-events : goal.returns-clause-events
returns-clause-events c = read_events
