use Rattle.std.proofs.Common.{arith}
use Rattle.std.proofs.lemmas.List.{take_all, take_more}
use Rattle.std.proofs.lemmas.Slice.Zip.{all_zipped_more}
use Rattle.liq_sessions.proofs.at_once.reply_lists.Goals as goal

pub loop-one-init : goal.loop-one-init
loop-one-init g c = rw c.in_ok-lists.ensures.items tt

pub loop-one-preserved : goal.loop-one-preserved
loop-one-preserved g c =
    let room = c.in_ok-with_capacity.ensures in
    rw (take_more _ _ c.one-item.result c.loop-one-test.true, c.in_ok-push.ensures.items)
    (all_zipped_more _ _ _ _ _ c.loop-one.invariant (
      room.items,
      rw (← c.one-item.is) (omega (
        arith,
        room.capacity,
        c.len.ensures,
      )),
    ))

pub returns : goal.returns
returns g c = rw (take_all _ _ c.loop-one-test.false) at c.loop-one.invariant
