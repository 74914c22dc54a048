use Rattle.std.proofs.Common.{List, ◌∙◌, ap, sym, subst}
use Rattle.liq_types.specs.Ranked.{Ranked}
use Rattle.liq_list_index.specs.Followed.{all_listed}
use Rattle.liq_core.specs.Core.{Core, StandsFor, state_of}
use Rattle.liq_core.proofs.SameContents.{stands_after, stands_before}
use Rattle.liq_market.specs.Content.{Content}
use Rattle.liq_market.proofs.Few.{few_taken}
use Rattle.liq_market.proofs.Making.{answers_made, answers_unmade, no_answer}
use Rattle.liq_market.proofs.market.Market.make_counted.Goals as goal

pub returns-in_err-reserve-clause-answered : goal.returns-in_err-reserve-clause-answered
returns-in_err-reserve-clause-answered g c s h =
    let stands = subst (λ (m : Content). StandsFor m.core s) (sym c.self.view_is) h in
    answers_unmade s c.args.command.now c.in-Ok-New.planned
    ((rw c.in-Ok-New.field-0-is at c.in-Ok-New.ensures) s stands) c.from_residual.result _
    c.from_residual.ensures.0 stands

pub returns-in_err-exact-clause-answered : goal.returns-in_err-exact-clause-answered
returns-in_err-exact-clause-answered g c s h =
    let stands = subst (λ (m : Content). StandsFor m.core s) (sym c.self.view_is) h in
    answers_unmade s c.args.command.now c.in-Ok-New.planned
    ((rw c.in-Ok-New.field-0-is at c.in-Ok-New.ensures) s stands) c.from_residual-in_err-exact.result _
    c.from_residual-in_err-exact.ensures.0 (stands_after _ _ s c.reserve-2.ensures.same stands)

pub returns-clause-answered : goal.returns-clause-answered
returns-clause-answered g c s h =
    let stands = subst (λ (m : Content). StandsFor m.core s) (sym c.self.view_is) h in
    let after = stands_after _ _ s c.reserve-2.ensures.same stands in
    answers_made s c.args.command.now c.in-Ok-New.planned
    ((rw c.in-Ok-New.field-0-is at c.in-Ok-New.ensures) s stands) _ c.apply-done.result
    (c.apply-done.ensures.state s after) (c.apply-done.ensures.reply s after)

pub returns-in_err-reserve-clause-touched : goal.returns-in_err-reserve-clause-touched
returns-in_err-reserve-clause-touched g c s h = no_answer _ c.from_residual.result c.from_residual.ensures.0

pub returns-in_err-exact-clause-touched : goal.returns-in_err-exact-clause-touched
returns-in_err-exact-clause-touched g c s h =
    no_answer _ c.from_residual-in_err-exact.result c.from_residual-in_err-exact.ensures.0

pub apply-done-requires-clause-planned : goal.apply-done-requires-clause-planned
apply-done-requires-clause-planned g c t h =
    let before = stands_before _ _ t c.reserve-2.ensures.same h in
    ((rw c.in-Ok-New.field-0-is at c.in-Ok-New.ensures) t before).1

pub apply-done-requires-clause-room : goal.apply-done-requires-clause-room
apply-done-requires-clause-room g c = c.in_ok-exact.ensures.room

pub returns-clause-few : goal.returns-clause-few
returns-clause-few g c k own =
    let stands = subst (λ (p : Core). StandsFor p (state_of p)) c.protocol.ensures c.protocols_stand.ensures in
    let is = (rw c.in-Ok-New.field-0-is at c.in-Ok-New.ensures) (state_of c.self.inside.guided) stands in
    let plan = c.in-Ok-New.planned in
    few_taken (all_listed c.self.inside.guided.list plan.changes) c.apply-done.new.self.list plan k c.in_ok-exact.exact
    c.args.words _ c.args.steps.now c.apply-done.new.steps (is.0 ∙ own)
    (c.apply-done.ensures.list ∙ ap (λ (l : List Ranked). all_listed l plan.changes) c.reserve-2.ensures.same.list)
    c.in_ok-exact.ensures.exact c.apply-done.ensures.few
