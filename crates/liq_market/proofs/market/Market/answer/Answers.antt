use Rattle.liq_market.proofs.Unhinted.{answers_same, ok_after, touched_same}
use Rattle.liq_market.proofs.market.Market.answer.Goals as goal

pub returns-in-Do-clause-answered : goal.returns-in-Do-clause-answered
returns-in-Do-clause-answered c s h =
    rw c.in-Do.is
    (answers_same s c.unhinted.result c.in-Do.command c.make.result _ c.unhinted.ensures.same
    (c.make.ensures.answered s h))

pub returns-in-Do-clause-touched : goal.returns-in-Do-clause-touched
returns-in-Do-clause-touched c s h =
    rw c.in-Do.is
    (ok_after c.make.result _ _ _
    (touched_same s c.unhinted.result c.in-Do.command c.args.self.now.touched c.unhinted.ensures.same)
    (c.make.ensures.touched s h))
