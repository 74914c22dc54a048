use Rattle.std.proofs.Common.{length}
use Rattle.liq_outside.specs.Made.{steps_of}
use Rattle.liq_outside.proofs.Tearing.{IsBackTo}
use Rattle.liq_outside.proofs.crash.tear.Given as goal

abbrev pub invariant-loop-note : goal.invariant-loop-note
invariant-loop-note l = IsBackTo l.fn.bytes.items (steps_of l.fn.notes.items) l.bytes.items
    (steps_of l.notes.items) l.least

abbrev pub decreases-loop-note : goal.decreases-loop-note
decreases-loop-note l = length l.notes.items
