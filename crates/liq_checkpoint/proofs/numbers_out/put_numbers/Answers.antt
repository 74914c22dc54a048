use Rattle.liq_checkpoint.proofs.Putting.{number_more}
use Rattle.liq_checkpoint.proofs.numbers_out.put_numbers.Goals as goal

pub loop-number-preserved : goal.loop-number-preserved
loop-number-preserved c = number_more c.args.out.now.items c.loop-number.out.items c.put_u64.new.out.items
    c.args.numbers.now c.loop-number.number-index c.loop-number-test.true c.loop-number.invariant
    c.in_ok-put_u64.ensures
