use Rattle.liq_serve.proofs.SpelledRead.{spelled_read}
use Rattle.liq_serve.proofs.laws.spelled_commands_are_read_back.Goals as goal

pub returns : goal.returns
returns c = spelled_read
