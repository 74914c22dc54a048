use Rattle.std.specs.Prelude.{decimal}
use Rattle.liq_text.proofs.WritingLaws.{spaced_end}
use Rattle.liq_text.proofs.appending.append_numbers.Goals as goal

pub returns : goal.returns
returns c = spaced_end decimal c.loop-number.text.items c.args.numbers.now c.loop-number.number-index _
    c.loop-number-test.false c.loop-number.invariant
