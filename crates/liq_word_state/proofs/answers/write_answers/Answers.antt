use Rattle.std.proofs.Common.{rules, ◌≡◌, ℕ, List, Ok, subst, ◌∙◌, Err, sym}
use Rattle.liq_types.specs.declared.requests.Command.{Command}
use Rattle.liq_word_state.specs.Answers.{asked_text}
use Rattle.liq_word_exit.specs.Statuses.{End}
use Rattle.liq_word_state.specs.declared.telling.Text.TheVariants as which
use Rattle.liq_word_state.specs.Told.{WritesSome}
use Rattle.liq_word_state.specs.Writing.{WritesAnswers, WritesText}
use Rattle.liq_word_state.proofs.Leading.{led}
use Rattle.liq_word_state.proofs.SomeTold.{answers_stop}
use Rattle.liq_word_state.proofs.TextsTold.{answers_written}
use Rattle.liq_word_state.proofs.answers.write_answers.Goals as goal

pub returns-clause-written : goal.returns-clause-written
returns-clause-written g c held w s told found stands from_one leads =
    let end = c.write_answered.result in
    let asked = c.args.asked.now in
    let before = (g.K.Sink.at c.args.out.now).held in
    let now = (g.K.Sink.at c.write_answered.new.out).held in
    let whole = c.in_ok-whole.ensures.found held w s told found stands from_one leads in
    let commands = c.deref.result.now in
    let are : commands ≡ w.commands = c.deref.ensures.value ∙ whole.1 in
    let so = led c.in_ok-whole.whole.limit commands w.commands s whole.0 are whole.2 in
    let wrote = subst (λ (limit : ℕ). WritesText (Ok (asked_text asked limit commands)) end before now)
    whole.0 (c.write_answered.ensures.written s so.replayed) in
    subst (λ (all : List Command). WritesAnswers s all asked end before now) are
    (answers_written s commands asked end before now so.leads wrote)

pub returns-in_err-whole-clause-some : goal.returns-in_err-whole-clause-some
returns-in_err-whole-clause-some g c =
    let held = (g.K.Sink.at c.args.out.now).held in
    let halt = c.in_err-whole.field-0.0 in
    let same : c.from_residual.result ≡ Err halt = search rules in
    subst (λ (end : End). WritesSome (which.Answers c.args.asked.now) end held held) (sym same)
    (answers_stop c.args.asked.now halt held c.in_err-whole.ensures.stops)
