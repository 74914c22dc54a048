use Rattle.std.proofs.Common.{[], inl, sym, subst, ◌∙◌}
use Rattle.liq_core.specs.Core.{Core, StandsFor, state_of}
use Rattle.liq_word_state.specs.declared.telling.Text.{Text}
use Rattle.liq_word_state.specs.Told.{WritesSome, WritesTold}
use Rattle.liq_word_state.proofs.TextsTold.{may_end}
use Rattle.liq_word_state.proofs.telling.write_told.Goals as goal

pub returns-in-State-clause-written : goal.returns-in-State-clause-written
returns-in-State-clause-written g c held w s told found stands from_one leads =
    let wrote = c.write_standing in
    subst (λ (what : Text). WritesTold what s w.commands wrote.result (g.K.Sink.at c.args.out.now).held
    (g.K.Sink.at wrote.new.out).held) (sym c.in-State.is)
    (wrote.ensures.written s (subst (λ (core : Core). StandsFor core s) (sym c.protocol.ensures) stands))

pub returns-in-Report-clause-written : goal.returns-in-Report-clause-written
returns-in-Report-clause-written g c held w s told found stands from_one leads =
    let wrote = c.write_report in
    subst (λ (what : Text). WritesTold what s w.commands wrote.result (g.K.Sink.at c.args.out.now).held
    (g.K.Sink.at wrote.new.out).held) (sym c.in-Report.is)
    (wrote.ensures.written s (subst (λ (core : Core). StandsFor core s) (sym c.protocol-in-Report.ensures) stands))

pub returns-in-Audit-clause-written : goal.returns-in-Audit-clause-written
returns-in-Audit-clause-written g c held w s told found stands from_one leads =
    let wrote = c.write_audit in
    subst (λ (what : Text). WritesTold what s w.commands wrote.result (g.K.Sink.at c.args.out.now).held
    (g.K.Sink.at wrote.new.out).held) (sym c.in-Audit.is)
    (wrote.ensures.written held w s told found stands from_one leads)

pub returns-in-Answers-clause-written : goal.returns-in-Answers-clause-written
returns-in-Answers-clause-written g c held w s told found stands from_one leads =
    let wrote = c.write_answers in
    subst (λ (what : Text). WritesTold what s w.commands wrote.result (g.K.Sink.at c.args.out.now).held
    (g.K.Sink.at wrote.new.out).held) (sym c.in-Answers.is)
    (wrote.ensures.written held w s told found stands from_one leads)

pub returns-in-State-clause-ends : goal.returns-in-State-clause-ends
returns-in-State-clause-ends g c = may_end c.args.what.now c.write_standing.result c.write_standing.ensures.no_source
    c.write_standing.ensures.no_number

pub returns-in-Report-clause-ends : goal.returns-in-Report-clause-ends
returns-in-Report-clause-ends g c = may_end c.args.what.now c.write_report.result c.write_report.ensures.no_source
    c.write_report.ensures.no_number

pub returns-in-State-clause-some : goal.returns-in-State-clause-some
returns-in-State-clause-some g c =
    let wrote = c.write_standing in
    let s = state_of c.protocol-protocol.result.now in
    subst (λ (what : Text). WritesSome what wrote.result (g.K.Sink.at c.args.out.now).held
    (g.K.Sink.at wrote.new.out).held) (sym c.in-State.is)
    (inl (
      s,
      [],
      c.protocols_are_sound_states.ensures,
      wrote.ensures.written s (subst (λ (core : Core). StandsFor core s)
          (c.protocol-protocol.ensures ∙ sym c.protocol.ensures) c.protocols_stand.ensures),
    ))

pub returns-in-Report-clause-some : goal.returns-in-Report-clause-some
returns-in-Report-clause-some g c =
    let wrote = c.write_report in
    let s = state_of c.protocol-protocol.result.now in
    subst (λ (what : Text). WritesSome what wrote.result (g.K.Sink.at c.args.out.now).held
    (g.K.Sink.at wrote.new.out).held) (sym c.in-Report.is)
    (inl (
      s,
      [],
      c.protocols_are_sound_states.ensures,
      wrote.ensures.written s (subst (λ (core : Core). StandsFor core s)
          (c.protocol-protocol.ensures ∙ sym c.protocol-in-Report.ensures) c.protocols_stand.ensures),
    ))

pub returns-in-Audit-clause-some : goal.returns-in-Audit-clause-some
returns-in-Audit-clause-some g c =
    let wrote = c.write_audit in
    subst (λ (what : Text). WritesSome what wrote.result (g.K.Sink.at c.args.out.now).held
    (g.K.Sink.at wrote.new.out).held) (sym c.in-Audit.is) wrote.ensures.some

pub returns-in-Answers-clause-some : goal.returns-in-Answers-clause-some
returns-in-Answers-clause-some g c =
    let wrote = c.write_answers in
    subst (λ (what : Text). WritesSome what wrote.result (g.K.Sink.at c.args.out.now).held
    (g.K.Sink.at wrote.new.out).held) (sym c.in-Answers.is) wrote.ensures.some
