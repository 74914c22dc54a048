use Rattle.std.proofs.Common.{arith}
use Rattle.liq_rule_step.specs.Step.{accounts}
use Rattle.liq_market.proofs.Moves.{moves_on}
use Rattle.liq_market.proofs.touching.note.Goals as goal

pub loop-change-preserved : goal.loop-change-preserved
loop-change-preserved c =
    let so = c.loop-change.invariant in
    let moved = c.note_moved.ensures in
    record {
      all =
          moves_on (accounts c.args.call.now) c.loop-change.all.items c.note_moved.new.all.items c.len-named.result
          c.args.changes.now c.loop-change.change-index _
          c.loop-change-test.true so.all so.named moved.moved;
      named = so.named;
      within = omega (arith, so.within, moved.kept);
      few = omega (arith, so.few, moved.few);
      room = omega (arith, so.room, moved.capacity);
    }
