use Rattle.std.proofs.Common.{take}
use Rattle.liq_checkpoint.specs.Spelling.{Puts, eights}
use Rattle.liq_checkpoint.proofs.numbers_out.put_numbers.Given as goal

abbrev pub invariant-loop-number : goal.invariant-loop-number
invariant-loop-number l = Puts l.fn.out.items l.out.items (eights (take l.number-index l.numbers))
