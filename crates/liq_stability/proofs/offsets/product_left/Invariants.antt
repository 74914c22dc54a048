use Rattle.std.proofs.Common.{◌-◌}
use Rattle.liq_types.specs.declared.amounts.TheConstants.{RISES_MOST}
use Rattle.liq_stability.specs.Words.{offset_in}
use Rattle.liq_stability.proofs.Rising.{IsTried}
use Rattle.liq_stability.proofs.offsets.product_left.Given as goal

abbrev pub invariant-loop-part : goal.invariant-loop-part
invariant-loop-part l = IsTried l.words.p (offset_in l.words l.debt 0) l.part l.rise

abbrev pub decreases-loop-part : goal.decreases-loop-part
decreases-loop-part l = RISES_MOST - l.rise
