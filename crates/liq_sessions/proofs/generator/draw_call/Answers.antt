use Rattle.std.proofs.Common.{◌∙◌}
use Rattle.liq_sessions.proofs.Coming.{three_draws}
use Rattle.liq_sessions.proofs.generator.draw_call.Goals as goal

pub returns-clause-call : goal.returns-clause-call
returns-clause-call c =
    c.call_by.ensures
    ∙ three_draws _ _ _ _ _ _ _ c.draw-kind.ensures.state c.draw.ensures.state c.draw-number.ensures.state
    c.draw-kind.ensures.number c.draw.ensures.number c.draw-number.ensures.number
