use Rattle.std.proofs.Common.{◌<◌, length, arith, refl}
use Rattle.liq_batch.proofs.Numbered.{numbered_begun, numbered_one, numbered_over, numbered_stopped, same_rest}
use Rattle.liq_batch.proofs.numbering.next_all.Goals as goal

pub loop-done-init : goal.loop-done-init
loop-done-init c = record {
  so_far = λ s h. numbered_begun s c.args.commands.now c.args.market.now c.args.replies.now h;
  others = refl;
}

pub loop-done-preserved : goal.loop-done-preserved
loop-done-preserved c =
    let low : c.loop-done.done < length c.args.commands.now =
    omega (arith, c.loop-done-test.true, c.min-most.ensures) in
    let low_2 : c.loop-done.done < length c.loop-done.commands = omega (arith, low, c.loop-done.auto.commands) in
    record {
      so_far = λ s h.
          numbered_one s c.args.commands.now c.loop-done.commands c.loop-done.done c.min-most.result c.args.market.now
          c.loop-done.market c.args.replies.now c.loop-done.replies c.min-most.ensures c.loop-done.invariant.others
          (c.loop-done.invariant.so_far s h)
          c.next_one.new.market c.in-Ok.reply c.encode.result c.next_one.new.command _ c.loop-done-test.true low_2
          c.encode.ensures (λ t k. c.in-Ok.ensures.answered t k) (λ t k. c.in-Ok.ensures.numbered t k);
      others =
          same_rest c.loop-done.commands c.args.commands.now c.loop-done.done c.next_one.new.command low_2 low
          c.loop-done.invariant.others;
    }

pub returns-in-Err : goal.returns-in-Err
returns-in-Err c = λ s h.
    numbered_stopped s c.args.commands.now c.loop-done.commands c.loop-done.done c.min-most.result c.args.market.now
    c.loop-done.market c.args.replies.now c.loop-done.replies c.min-most.ensures c.loop-done.invariant.others
    (c.loop-done.invariant.so_far s h)
    c.next_one.new.market c.in-Err.fault c.next_one.new.command _ c.stopped.result c.stopped.new.replies
    c.loop-done-test.true (omega (arith, c.loop-done-test.true, c.min-most.ensures, c.loop-done.auto.commands))
    c.stopped.ensures.batch c.stopped.ensures.reply
    (λ t k. c.in-Err.ensures.answered t k) c.in-Err.ensures.stays

pub returns : goal.returns
returns c = λ s h.
    numbered_over s c.args.commands.now c.loop-done.commands c.loop-done.done c.min-most.result c.args.market.now
    c.loop-done.market c.args.replies.now c.loop-done.replies c.min-most.ensures c.loop-done.invariant.others
    (c.loop-done.invariant.so_far s h)
    c.over.result c.loop-done.auto.done-end c.loop-done-test.false c.over.ensures
