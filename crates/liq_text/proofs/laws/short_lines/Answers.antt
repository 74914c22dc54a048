use Rattle.liq_text.proofs.LineLengths.{request_short, session_request_short}
use Rattle.liq_text.proofs.laws.short_lines.Goals as goal

pub returns-clause-line : goal.returns-clause-line
returns-clause-line c = request_short

pub returns-clause-in_session : goal.returns-clause-in_session
returns-clause-in_session c = session_request_short
