use Rattle.std.proofs.Common.{◌≡◌, ◌≤◌, ◌-◌, length, take}
use Rattle.liq_text_lines.specs.Writing.{Writes}
use Rattle.liq_text_lines.proofs.writer.write_all.Given as goal

-- what is written so far
abbrev pub invariant-loop-written : goal.invariant-loop-written
invariant-loop-written g l =
    let at = g.K.Sink.at in
    record {
      within : l.written ≤ length l.bytes;
      front : Writes (at l.fn.out).held (take l.written l.bytes) (at l.out).held;
      count : (at l.out).faults ≡ (at l.fn.out).faults;
      unshown : (at l.out).shown ≡ (at l.fn.out).shown;
    }

abbrev pub decreases-loop-written : goal.decreases-loop-written
decreases-loop-written g l = length l.bytes - l.written
