use Rattle.std.proofs.Common.{sym, subst}
use Rattle.liq_order.specs.Nodes.{IsSettled}
use Rattle.liq_order.proofs.Kept.{within_settled}
use Rattle.liq_order.proofs.cells.Cells.link.Goals as goal

pub join-requires-clause-before : goal.join-requires-clause-before
join-requires-clause-before g c =
    within_settled _ _ _ _ _ _ c.settle-at.ensures.place c.args.node.previous c.requires.before

pub join-requires-clause-behind : goal.join-requires-clause-behind
join-requires-clause-behind g c =
    within_settled _ _ _ _ _ _ c.settle-at.ensures.place c.args.node.next c.requires.behind

pub returns-clause-linked : goal.returns-clause-linked
returns-clause-linked g c =
    let old = c.args.self.now in
    let settle = c.settle-at in
    record {
      settled = settle.new.nodes.items;
      settles =
          subst (λ free. IsSettled old.nodes.items old.free.items c.args.node settle.result settle.new.nodes.items free)
          (sym c.join.ensures.free) settle.ensures.place;
      joins = c.join.ensures.nodes;
      first_is = c.join.ensures.first;
      last_is = c.join.ensures.last;
    }
