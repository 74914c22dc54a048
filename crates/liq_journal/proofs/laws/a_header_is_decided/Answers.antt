use Rattle.liq_journal.proofs.Heading.{header_decides}
use Rattle.liq_journal.proofs.laws.a_header_is_decided.Goals as goal

pub returns : goal.returns
returns c = header_decides
