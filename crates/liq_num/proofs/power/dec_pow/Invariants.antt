use Rattle.liq_num.proofs.Halving.{turns_of}
use Rattle.liq_num.proofs.Squaring.{IsWithinTurns}
use Rattle.liq_num.proofs.power.dec_pow.Given as goal

abbrev pub invariant-loop-exponent : goal.invariant-loop-exponent
invariant-loop-exponent l = IsWithinTurns l.x l.initial.exponent l.square l.product l.exponent

abbrev pub decreases-loop-exponent : goal.decreases-loop-exponent
decreases-loop-exponent l = turns_of l.exponent
