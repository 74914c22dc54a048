use Rattle.std.proofs.Common.{◌<◌, ℕ, List, Ok, Err, ap, sym, subst, ◌∙◌, arith}
use Rattle.std.specs.Prelude.{map}
use Rattle.liq_text_scripts.specs.Sending.{Sends, replies_text}
use Rattle.liq_text_scripts.specs.Sessions.{sessions}
use Rattle.liq_text_scripts.proofs.Own.{session_part, session-at}
use Rattle.liq_text_scripts.proofs.Sent.{each_more, each_cut, sends_fault}
use Rattle.liq_text_scripts.proofs.output.send_replies.Goals as goal

pub returns-in_err-send_session-clause-sends : goal.returns-in_err-send_session-clause-sends
returns-in_err-send_session-clause-sends g c =
    let at = g.K.Sink.at in
    let piece = session_part g.E.ShownEntry.entry c.args.entries.now in
    let before = c.loop-before.before in
    let fault = c.in_err-send_session.field-0.0 in
    let within : before < 8 = omega (arith, c.loop-before-test.true) in
    sends_fault c.from_residual.result fault c.args.outbox.now
    (replies_text (map g.E.ShownEntry.entry c.args.entries.now)) c.send_session.new.outbox (at c.args.out.now).held
    (at c.send_session.new.out).held c.from_residual.ensures.1
    (each_cut piece sessions fault before 0 c.args.outbox.now c.loop-before.outbox c.send_session.new.outbox
    (at c.args.out.now).held (at c.loop-before.out).held
    (at c.send_session.new.out).held within c.loop-before.invariant.sent
    (subst (λ (t : List ℕ). Sends (Err fault) c.loop-before.outbox t c.send_session.new.outbox
    (at c.loop-before.out).held (at c.send_session.new.out).held)
    (ap piece (sym (session-at before within))) c.in_err-send_session.ensures.sends))

pub loop-before-preserved : goal.loop-before-preserved
loop-before-preserved g c =
    let at = g.K.Sink.at in
    let piece = session_part g.E.ShownEntry.entry c.args.entries.now in
    let before = c.loop-before.before in
    let within : before < 8 = omega (arith, c.loop-before-test.true) in
    record {
      sent =
          each_more piece sessions before 0 c.args.outbox.now c.loop-before.outbox c.send_session.new.outbox
          (at c.args.out.now).held (at c.loop-before.out).held
          (at c.send_session.new.out).held within c.loop-before.invariant.sent
          (subst (λ (t : List ℕ). Sends (Ok tt) c.loop-before.outbox t c.send_session.new.outbox
          (at c.loop-before.out).held (at c.send_session.new.out).held)
          (ap piece (sym (session-at before within))) c.in_ok-send_session.ensures.sends);
      count = c.in_ok-send_session.ensures.cause.ok ∙ c.loop-before.invariant.count;
      unshown = c.in_ok-send_session.ensures.unshown ∙ c.loop-before.invariant.unshown;
    }
