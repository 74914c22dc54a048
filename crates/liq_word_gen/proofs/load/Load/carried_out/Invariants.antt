use Rattle.std.proofs.Common.{ℕ, ◌≡◌, ◌+◌, length}
use Rattle.liq_sessions.specs.Generated.{generated, PREAMBLE}
use Rattle.liq_word_gen.specs.Carrying.{AreWithin, IsNumbered}
use Rattle.liq_word_gen.proofs.Loads.{Underway}
use Rattle.liq_word_gen.proofs.load.Load.carried_out.Given as goal

abbrev pub invariant-loop-call : goal.invariant-loop-call
invariant-loop-call g l = record {
  underway : Underway l.done.protocol l.done.counts l.calls (generated l.seed l.count);
  made : ℕ;
  made_is : made + length l.calls ≡ PREAMBLE + l.count;
  few : AreWithin made l.done.counts;
  numbered : IsNumbered l.done.protocol l.done.counts;
}

abbrev pub decreases-loop-call : goal.decreases-loop-call
decreases-loop-call g l = length l.calls
