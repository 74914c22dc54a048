use Rattle.std.proofs.Common.{◌≡◌, drop}
use Rattle.liq_types.specs.State.{State}
use Rattle.liq_core.specs.Core.{StandsFor}
use Rattle.liq_batch.proofs.Numbered.{NumberedSoFar}
use Rattle.liq_batch.proofs.numbering.next_all.Given as goal

abbrev pub invariant-loop-done : goal.invariant-loop-done
invariant-loop-done l = record {
  so_far : (s : State) → StandsFor l.fn.market.core s
      → NumberedSoFar s l.fn.commands l.commands l.done l.fn.market l.market l.fn.replies l.replies;
  others : drop l.done l.commands ≡ drop l.done l.fn.commands;
}
