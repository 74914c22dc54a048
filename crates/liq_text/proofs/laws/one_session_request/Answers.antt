use Rattle.liq_text.proofs.LineLaws.{one_session_request}
use Rattle.liq_text.proofs.laws.one_session_request.Goals as goal

pub returns : goal.returns
returns c = one_session_request
