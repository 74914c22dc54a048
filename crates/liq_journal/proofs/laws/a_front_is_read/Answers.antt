use Rattle.liq_journal.proofs.Reading.{records_alike}
use Rattle.liq_journal.proofs.laws.a_front_is_read.Goals as goal

pub returns : goal.returns
returns c = records_alike
