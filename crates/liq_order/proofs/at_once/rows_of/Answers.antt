use Rattle.std.proofs.Common.{List, pos, ap, ◌∙◌, arith}
use Rattle.std.proofs.lemmas.List.{take_all}
use Rattle.liq_types.specs.Ranked.{Ranked}
use Rattle.liq_order.specs.Chained.{rows_from}
use Rattle.liq_order.proofs.Chained.{rows_from_next}
use Rattle.liq_order.proofs.at_once.rows_of.Goals as goal

pub push_reserved-requires : goal.push_reserved-requires
push_reserved-requires c =
    let l = c.loop-at in
    omega (arith, l.invariant.count, l.invariant.room, c.loop-at-test.true, l.auto.at-end)

pub loop-at-preserved : goal.loop-at-preserved
loop-at-preserved c = record {
  rows =
      c.push_reserved.ensures.items
      ∙ rows_from_next c.loop-at.at c.args.entries.now (pos 0, 0) (omega (
        arith,
        c.loop-at-test.true,
        c.loop-at.auto.at-end,
      )) c.loop-at.rows.items c.loop-at.invariant.rows;
  count = omega (arith, c.push_reserved.ensures.len, c.loop-at.invariant.count);
  room = omega (arith, c.push_reserved.ensures.capacity, c.loop-at.invariant.room);
}

pub returns : goal.returns
returns c = c.loop-at.invariant.rows
    ∙ ap (λ (es : List Ranked). rows_from 0 es) (take_all c.loop-at.at c.args.entries.now (omega (
      arith,
      c.loop-at-test.false,
      c.loop-at.auto.at-end,
    )))
