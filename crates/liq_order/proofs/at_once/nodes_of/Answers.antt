use Rattle.std.proofs.Common.{◌≡◌, ◌+◌, ◌<◌, suc, Option, List, [], ◌∷◌, ◌++◌, length, get_or, take, pos, ap, ◌∙◌, arith}
use Rattle.std.proofs.lemmas.List.{take_all}
use Rattle.liq_types.specs.Ranked.{Ranked}
use Rattle.liq_order.specs.Chained.{before, below, chained, chained_node}
use Rattle.liq_order.specs.declared.places.NodeNo.{NodeNo}
use Rattle.liq_order.proofs.Chained.{chained_next}
use Rattle.liq_order.proofs.at_once.nodes_of.Goals as goal

pub push_reserved-requires : goal.push_reserved-requires
push_reserved-requires c =
    let l = c.loop-at in
    omega (arith, l.invariant.count, l.invariant.room, c.loop-at-test.true, l.auto.at-end)

pub loop-at-preserved : goal.loop-at-preserved
loop-at-preserved c =
    let es = c.args.entries.now in
    let at = c.loop-at.at in
    let less : at < length es = omega (arith, c.loop-at-test.true, c.loop-at.auto.at-end) in
    let d : Ranked = (pos 0, 0) in
    let next : at + 1 ≡ suc at = omega arith in
    let is : c.of.result ≡ chained_node (length es) at (get_or es at d) =
    c.of.ensures
    ∙ ap (λ (previous : Option NodeNo). record {
      key = (get_or es at d).0;
      account = (get_or es at d).1;
      previous = previous;
      next = c.place_below-next.result;
    }) c.place_before.ensures
    ∙ ap (λ (next : Option NodeNo). record {
      key = (get_or es at d).0;
      account = (get_or es at d).1;
      previous = before at;
      next = next;
    }) (c.place_below-next.ensures ∙ ap (λ k. below (length es) k) next)
    in
    record {
      nodes = c.push_reserved.ensures.items ∙ ap (λ l. l ++ c.of.result ∷ []) c.loop-at.invariant.nodes
          ∙ ap (λ x. chained (length es) 0 (take at es) ++ x ∷ []) is ∙ chained_next (length es) at es d less;
      count = omega (arith, c.push_reserved.ensures.len, c.loop-at.invariant.count);
      room = omega (arith, c.push_reserved.ensures.capacity, c.loop-at.invariant.room);
    }

pub returns-clause-nodes : goal.returns-clause-nodes
returns-clause-nodes c =
    let all = c.args.entries.now in
    c.loop-at.invariant.nodes ∙ ap (λ (es : List Ranked). chained (length all) 0 es) (take_all c.loop-at.at all
    (omega (arith, c.loop-at-test.false, c.loop-at.auto.at-end)))
