use Rattle.liq_journal.proofs.Heading.{has_limit}
use Rattle.liq_journal.proofs.laws.an_open_disk_has_a_limit.Goals as goal

pub returns : goal.returns
returns c = has_limit
