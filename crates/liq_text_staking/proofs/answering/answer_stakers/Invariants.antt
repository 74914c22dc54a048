use Rattle.liq_text_staking.proofs.Ways.{IsUnderWay}
use Rattle.liq_text_staking.proofs.answering.answer_stakers.Given as goal

abbrev pub invariant-loop-line : goal.invariant-loop-line
invariant-loop-line l = IsUnderWay l.fees l.lines l.line-index l.asked
