use Rattle.liq_text.proofs.LineLaws.{one_request}
use Rattle.liq_text.proofs.laws.one_request.Goals as goal

pub returns : goal.returns
returns c = one_request
