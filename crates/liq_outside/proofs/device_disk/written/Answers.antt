use Rattle.std.proofs.Common.{◌∙◌, ◌≡◌, ◌≤◌, ◌+◌, List, [], ℕ, Some, length, take, ap, arith, length-take, length-drop}
use Rattle.std.proofs.lemmas.List.{length-take-le}
use Rattle.liq_outside.specs.Disk.{overwritten}
use Rattle.liq_outside.proofs.Loops.{length-overwritten, write_more}
use Rattle.liq_outside.proofs.device_disk.written.Goals as goal

pub loop-count-preserved : goal.loop-count-preserved
loop-count-preserved g c =
    let bytes : List ℕ = c.args.bytes.now in
    let count = c.loop-count.count in
    record {
      within = omega (
        arith,
        c.in_ok-count.ensures.fits,
        c.loop-count-test.true,
        simp (length-take, length-drop) at c.in_ok-count.ensures.fits,
      );
      telling = c.in_ok-count.ensures.telling ∙ c.loop-count.invariant.telling;
      kept = c.in_ok-count.ensures.kept ∙ c.loop-count.invariant.kept;
      none_failed = c.in_ok-count.ensures.counted ∙ c.loop-count.invariant.none_failed;
      written = λ old is inside.
          let long : length (take count bytes) ≡ count = length-take-le count bytes c.loop-count.invariant.within in
          let reached : c.args.at + count ≤ length (overwritten old c.args.at (take count bytes)) =
          omega (arith, long, length-overwritten old (take count bytes) [] c.args.at inside) in
          c.in_ok-count.ensures.written _ (c.loop-count.invariant.written old is inside) reached
          ∙ ap Some (write_more old bytes c.args.at count c.in_ok-count.field-0 inside c.loop-count.invariant.within);
    }
