use Rattle.std.proofs.Common.{◌<◌, ◌≤◌, ℕ, List, Ok, Err, length, ap, subst, ◌∙◌, arith}
use Rattle.std.specs.List.{flat_map}
use Rattle.liq_text_scripts.specs.Sending.{Sends}
use Rattle.liq_text_scripts.proofs.Own.{sent_of}
use Rattle.liq_text_scripts.proofs.Sent.{each_more, each_cut, each_done, sends_fault}
use Rattle.liq_text_scripts.proofs.output.send_each.Goals as goal

pub returns-in_err-send_part-clause-sends : goal.returns-in_err-send_part-clause-sends
returns-in_err-send_part-clause-sends g c =
    let at = g.K.Sink.at in
    let piece = sent_of g.E.ShownEntry.entry c.args.part in
    let entries = c.args.entries.now in
    let fault = c.in_err-send_part.field-0.0 in
    let within : c.loop-entry.entry-index < length entries = omega (
      arith,
      c.loop-entry-test.true,
      c.loop-entry.auto.entry-index-end,
    ) in
    sends_fault c.from_residual.result fault c.args.outbox.now (flat_map piece entries) c.send_part.new.outbox
    (at c.args.out.now).held (at c.send_part.new.out).held c.from_residual.ensures.1
    (each_cut piece entries fault c.loop-entry.entry-index c.entry-item.result c.args.outbox.now c.loop-entry.outbox
    c.send_part.new.outbox (at c.args.out.now).held (at c.loop-entry.out).held
    (at c.send_part.new.out).held within c.loop-entry.invariant.sent
    (subst (λ (t : List ℕ). Sends (Err fault) c.loop-entry.outbox t c.send_part.new.outbox (at c.loop-entry.out).held
    (at c.send_part.new.out).held) (ap piece c.entry-item.is) c.in_err-send_part.ensures.sends))

pub loop-entry-preserved : goal.loop-entry-preserved
loop-entry-preserved g c =
    let at = g.K.Sink.at in
    let piece = sent_of g.E.ShownEntry.entry c.args.part in
    let entries = c.args.entries.now in
    let within : c.loop-entry.entry-index < length entries = omega (
      arith,
      c.loop-entry-test.true,
      c.loop-entry.auto.entry-index-end,
    ) in
    record {
      sent =
          each_more piece entries c.loop-entry.entry-index c.entry-item.result c.args.outbox.now c.loop-entry.outbox
          c.send_part.new.outbox (at c.args.out.now).held (at c.loop-entry.out).held
          (at c.send_part.new.out).held within c.loop-entry.invariant.sent
          (subst (λ (t : List ℕ). Sends (Ok tt) c.loop-entry.outbox t c.send_part.new.outbox (at c.loop-entry.out).held
          (at c.send_part.new.out).held) (ap piece c.entry-item.is) c.in_ok-send_part.ensures.sends);
      count = c.in_ok-send_part.ensures.cause.ok ∙ c.loop-entry.invariant.count;
      unshown = c.in_ok-send_part.ensures.unshown ∙ c.loop-entry.invariant.unshown;
    }

pub returns-clause-sends : goal.returns-clause-sends
returns-clause-sends g c =
    let at = g.K.Sink.at in
    let entries = c.args.entries.now in
    let all : length entries ≤ c.loop-entry.entry-index = omega (
      arith,
      c.loop-entry-test.false,
      c.loop-entry.auto.entry-index-end,
    ) in
    each_done (sent_of g.E.ShownEntry.entry c.args.part) entries
    (Ok tt) c.loop-entry.entry-index c.args.outbox.now c.loop-entry.outbox (at c.args.out.now).held
    (at c.loop-entry.out).held all c.loop-entry.invariant.sent
