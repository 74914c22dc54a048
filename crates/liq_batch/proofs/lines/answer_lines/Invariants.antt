use Rattle.std.proofs.Common.{◌≤◌, ◌-◌, length}
use Rattle.std.specs.Vec.{vec_capacity}
use Rattle.liq_types.specs.State.{State}
use Rattle.liq_core.specs.Core.{StandsFor}
use Rattle.liq_batch.specs.declared.lines.TheConstants.{LINE_MOST}
use Rattle.liq_batch.proofs.Lining.{TextSoFar}
use Rattle.liq_batch.proofs.lines.answer_lines.Given as goal

abbrev pub invariant-loop-size : goal.invariant-loop-size
invariant-loop-size l = record {
  so_far : (s : State) → StandsFor l.fn.market.core s
      → TextSoFar s l.text l.taken l.written l.fn.market l.market l.fn.out l.out;
  taken : l.taken ≤ length l.text;
  written : l.written ≤ length l.out;
  room : LINE_MOST ≤ vec_capacity l.reply;
}

abbrev pub decreases-loop-size : goal.decreases-loop-size
decreases-loop-size l = length l.text - l.taken
