use Rattle.std.proofs.Common.{sym, ◌∙◌, subst}
use Rattle.liq_order.specs.declared.places.Node.{Node}
use Rattle.liq_order.specs.Cells.{IsUnlinked}
use Rattle.liq_order.specs.Nodes.{IsWithin}
use Rattle.liq_order.proofs.cells.Cells.unlink.Goals as goal

pub join-requires-clause-before : goal.join-requires-clause-before
join-requires-clause-before g c =
    let nodes = c.args.self.now.nodes.items in
    subst (λ (n : Node). IsWithin nodes n.previous) (sym c.look.ensures.node) c.requires.before

pub join-requires-clause-behind : goal.join-requires-clause-behind
join-requires-clause-behind g c =
    let nodes = c.args.self.now.nodes.items in
    subst (λ (n : Node). IsWithin nodes n.next) (sym c.look.ensures.node) c.requires.behind

pub returns-clause-unlinked : goal.returns-clause-unlinked
returns-clause-unlinked g c =
    let old = c.args.self.now in
    subst (λ (n : Node). IsUnlinked old c.args.at n.previous n.next c.join.new.self) c.look.ensures.node (record {
      frees = c.join.ensures.free ∙ c.push_reserved.ensures.items;
      joins = c.join.ensures.nodes;
      first_is = c.join.ensures.first;
      last_is = c.join.ensures.last;
    })
