use Rattle.liq_types.specs.State.{State}
use Rattle.liq_core.specs.Core.{StandsFor}
use Rattle.liq_batch.specs.Batch.{doing}
use Rattle.liq_batch.proofs.Batching.{SoFar}
use Rattle.liq_batch.proofs.commands.do_all.Given as goal

abbrev pub invariant-loop-done : goal.invariant-loop-done
invariant-loop-done l =
    (s : State) → StandsFor l.fn.market.core s
    → SoFar doing s l.commands l.done l.fn.market l.market l.fn.replies l.replies
