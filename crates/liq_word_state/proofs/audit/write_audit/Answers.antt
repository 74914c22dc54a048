use Rattle.std.proofs.Common.{rules, ◌≡◌, ℕ, List, subst, Err, sym, ◌∙◌}
use Rattle.liq_types.specs.declared.requests.Command.{Command}
use Rattle.liq_text_audit.specs.Reviewed.{reviewed}
use Rattle.liq_word_exit.specs.Statuses.{End}
use Rattle.liq_word_state.specs.declared.telling.Text.TheVariants as which
use Rattle.liq_word_state.specs.Told.{WritesSome}
use Rattle.liq_word_state.specs.Writing.{WritesAudit, WritesText}
use Rattle.liq_word_state.proofs.Leading.{led}
use Rattle.liq_word_state.proofs.SomeTold.{audit_stops}
use Rattle.liq_word_state.proofs.TextsTold.{audit_reviewed}
use Rattle.liq_word_state.proofs.audit.write_audit.Goals as goal

pub returns-clause-written : goal.returns-clause-written
returns-clause-written g c held w s told found stands from_one leads =
    let end = c.write_review.result in
    let before = (g.K.Sink.at c.args.out.now).held in
    let now = (g.K.Sink.at c.write_review.new.out).held in
    let whole = c.in_ok-whole.ensures.found held w s told found stands from_one leads in
    let commands = c.deref.result.now in
    let are : commands ≡ w.commands = c.deref.ensures.value ∙ whole.1 in
    let so = led c.in_ok-whole.whole.limit commands w.commands s whole.0 are whole.2 in
    let wrote = c.write_review.ensures.written s (sym whole.0) so.replayed in
    let reviewed_so = subst (λ (limit : ℕ). WritesText (reviewed limit commands) end before now) whole.0 wrote.0 in
    subst (λ (all : List Command). WritesAudit s all end before now) are
    (audit_reviewed s commands end before now so.leads reviewed_so wrote.1)

pub returns-in_err-whole-clause-some : goal.returns-in_err-whole-clause-some
returns-in_err-whole-clause-some g c =
    let held = (g.K.Sink.at c.args.out.now).held in
    let halt = c.in_err-whole.field-0.0 in
    let same : c.from_residual.result ≡ Err halt = search rules in
    subst (λ (end : End). WritesSome which.Audit end held held) (sym same)
    (audit_stops halt held c.in_err-whole.ensures.stops)
