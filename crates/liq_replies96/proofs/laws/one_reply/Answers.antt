use Rattle.liq_replies96.proofs.Telling.{one}
use Rattle.liq_replies96.proofs.laws.one_reply.Goals as goal

pub returns : goal.returns
returns c = one
