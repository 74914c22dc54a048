use Rattle.std.proofs.Common.{arith, subst, sym, ap, ◌∙◌, ◌++◌, List, take, ℕ, length-drop, length-take}
use Rattle.std.proofs.Math.Seq.{take-add}
use Rattle.std.proofs.lemmas.List.{take_rest}
use Rattle.liq_text_lines.specs.Writing.{Writes}
use Rattle.liq_text_lines.proofs.Bytes.{writes_more}
use Rattle.liq_text_lines.proofs.writer.write_all.Goals as goal

pub loop-written-preserved : goal.loop-written-preserved
loop-written-preserved g c =
    let bytes : List ℕ = c.args.bytes.now in
    let w = c.loop-written.written in
    let n = c.in_ok-written.field-0 in
    let piece = take_rest bytes w in
    record {
      within = omega (
        arith,
        c.in_ok-written.ensures.fits,
        c.loop-written-test.true,
        simp (length-take, length-drop) at c.in_ok-written.ensures.fits,
      );
      front =
          subst (λ (front : List ℕ). Writes (g.K.Sink.at c.args.out.now).held front (g.K.Sink.at c.write.new.self).held)
          (ap (λ (p : List ℕ). take w bytes ++ take n p) piece ∙ sym (take-add w n bytes))
          (writes_more (g.K.Sink.at c.args.out.now).held (g.K.Sink.at c.loop-written.out).held
          (g.K.Sink.at c.write.new.self).held _ _ c.loop-written.invariant.front c.in_ok-written.ensures.appended);
      count = c.in_ok-written.ensures.cause.ok ∙ c.loop-written.invariant.count;
      unshown = c.in_ok-written.ensures.unshown ∙ c.loop-written.invariant.unshown;
    }
