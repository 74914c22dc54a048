use Rattle.std.proofs.Common.{sym, ◌∙◌}
use Rattle.std.proofs.lemmas.Option.{none-some}
use Rattle.liq_text.specs.Spelling.{SpellsInSession}
use Rattle.liq_text.proofs.LineLaws.{session_read_is_spelled, session_spelled_is_read, is_found, is_only, is_bad}
use Rattle.liq_text.proofs.lines.read_session_line.Goals as goal

pub returns-clause-found : goal.returns-clause-found
returns-clause-found c = is_found (λ r. SpellsInSession c.args.line.now r.0 r.1) _ _ _ c.ok_or.ensures.value
    (λ r e. session_read_is_spelled c.args.line.now r.0 r.1 (sym c.session_request_in.ensures ∙ e))

pub returns-clause-only : goal.returns-clause-only
returns-clause-only c = λ session r s. is_only _ _ _ (session, r) c.ok_or.ensures.value (c.session_request_in.ensures
    ∙ session_spelled_is_read c.args.line.now session r s)

pub returns-clause-bad : goal.returns-clause-bad
returns-clause-bad c = is_bad _ _ _ c.ok_or.ensures.value (λ none session r s. none-some (session, r) (sym none
    ∙ c.session_request_in.ensures ∙ session_spelled_is_read c.args.line.now session r s))
