use Rattle.liq_batch.specs.Batch.{previewing}
use Rattle.liq_batch.proofs.Batching.{more, over, stopped}
use Rattle.liq_batch.proofs.Ways.{by_previewing}
use Rattle.liq_batch.proofs.previews.preview_all.Goals as goal

pub loop-done-preserved : goal.loop-done-preserved
loop-done-preserved c = λ s h.
    more previewing by_previewing s c.args.commands.now c.loop-done.done c.min-most.result
    c.args.market.now c.args.market.now c.args.replies.now c.loop-done.replies c.min-most.ensures
    (c.loop-done.invariant s h)
    c.args.market.now c.in-Ok.reply c.encode.result _ c.loop-done-test.true c.encode.ensures
    (λ t k. c.in-Ok.ensures t k)

pub returns-in-Err : goal.returns-in-Err
returns-in-Err c = λ s h.
    stopped previewing by_previewing s c.args.commands.now c.loop-done.done c.min-most.result
    c.args.market.now c.args.market.now c.args.replies.now c.loop-done.replies c.min-most.ensures
    (c.loop-done.invariant s h)
    c.args.market.now c.in-Err.fault _ c.stopped.result c.stopped.new.replies c.loop-done-test.true
    c.stopped.ensures.batch c.stopped.ensures.reply (λ t k. c.in-Err.ensures t k)

pub returns : goal.returns
returns c = λ s h.
    over previewing by_previewing s c.args.commands.now c.loop-done.done c.min-most.result
    c.args.market.now c.args.market.now c.args.replies.now c.loop-done.replies c.min-most.ensures
    (c.loop-done.invariant s h)
    c.over.result c.loop-done.auto.done-end c.loop-done-test.false c.over.ensures
