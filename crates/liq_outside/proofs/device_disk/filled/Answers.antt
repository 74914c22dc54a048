use Rattle.std.proofs.Common.{◌∙◌, ◌≡◌, ◌≤◌, ◌+◌, ◌-◌, List, ℕ, Option, IfSome, length, take, drop, subst, arith, length-take, length-drop}
use Rattle.liq_outside.proofs.Loops.{read_more, length-filled}
use Rattle.liq_outside.proofs.device_disk.filled.Goals as goal

pub loop-count-preserved : goal.loop-count-preserved
loop-count-preserved g c =
    let buf : List ℕ = c.loop-count.buf in
    let piece : List ℕ = c.read_some.new.buf in
    let at = c.args.at in
    let count = c.loop-count.count in
    let n = c.in_ok-more.more in
    let room : length piece ≡ length buf - count =
    omega (arith, simp (length-take, length-drop) at c.read_some.auto.buf) in
    let fits : n ≤ length piece = omega (arith, c.in_ok-more.ensures.fits, c.read_some.auto.buf) in
    let within = c.loop-count.invariant.within in
    let long = length-filled buf piece count within room in
    record {
      within = omega (arith, long, fits, room, within);
      long = long ∙ c.loop-count.invariant.long;
      same = c.in_ok-more.ensures.same ∙ c.loop-count.invariant.same;
      kept = c.in_ok-more.ensures.kept ∙ c.loop-count.invariant.kept;
      none_failed = c.in_ok-more.ensures.counted ∙ c.loop-count.invariant.none_failed;
      read = λ small.
          let place : c.saturating_add.result ≡ at + count = omega (
            arith,
            c.saturating_add.ensures,
            small,
            c.loop-count.invariant.long,
            c.loop-count-test.true,
          ) in
          let there = subst (λ (p : ℕ). IfSome (g.V.Device.held c.loop-count.device) (λ old. (n ≤ length old - p)
          × (take n piece ≡ take n (drop p old)))) place c.in_ok-more.ensures.told in
          let more = subst (λ (o : Option (List ℕ)). IfSome o (λ old. (n ≤ length old - (at + count))
          × (take n piece ≡ take n (drop (at + count) old)))) c.loop-count.invariant.same there in
          read_more (g.V.Device.held c.args.device.now) at count n buf piece (drop (length buf - count)
          (drop count buf)) within fits (c.loop-count.invariant.read small) more;
    }
