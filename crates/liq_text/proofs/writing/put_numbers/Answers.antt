use Rattle.std.proofs.Common.{arith, ◌+◌, length}
use Rattle.liq_text.proofs.WritingLaws.{spaced_next, spaced_end, room_for, next_times}
use Rattle.liq_text.proofs.writing.put_numbers.Goals as goal

pub put_number-requires : goal.put_number-requires
put_number-requires g c = room_for _ _ (length c.args.numbers.now) c.loop-number.number-index (g.I.Integer.MAX_STR_LEN
    + 1) c.loop-number-test.true c.loop-number.invariant.room

pub loop-number-preserved : goal.loop-number-preserved
loop-number-preserved g c =
    let next = next_times c.loop-number.number-index (g.I.Integer.MAX_STR_LEN + 1) in
    record {
      items = spaced_next g.I.Integer.text c.loop-number.out.items c.put_number.new.out.items c.args.numbers.now
          c.loop-number.number-index c.number-item.result _ c.loop-number-test.true c.number-item.is
          c.put_number.ensures.items c.loop-number.invariant.items;
      len = omega (arith, next);
      room = omega (arith, next);
      capacity = omega arith;
    }

pub returns-clause-items : goal.returns-clause-items
returns-clause-items g c = spaced_end g.I.Integer.text c.loop-number.out.items c.args.numbers.now
    c.loop-number.number-index _ c.loop-number-test.false c.loop-number.invariant.items
