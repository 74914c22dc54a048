use Rattle.std.proofs.Common.{◌<◌, length, ap, sym, ◌∙◌, subst}
use Rattle.liq_order.specs.declared.places.NodeNo.{NodeNo}
use Rattle.liq_order.specs.Nodes.{Ring, IsIn, memory, visited}
use Rattle.liq_order.proofs.Chains.{all_front, in_within}
use Rattle.liq_order.proofs.linked.Nodes.read.Goals as goal

pub look-requires : goal.look-requires
look-requires g c =
    let cells = c.self.inside.cells in
    let nodes = cells.nodes.items in
    let order = visited nodes cells.first in
    let inside = all_front (λ (q : NodeNo). q.0 < length nodes) order cells.free.items c.self.invariant.0.within in
    in_within (length nodes) c.args.at order inside (subst (λ (r : Ring). IsIn c.args.at r.order) (sym c.self.view_is)
    c.requires)

pub returns-clause-node : goal.returns-clause-node
returns-clause-node g c = c.look.ensures.node ∙ ap (λ (r : Ring). memory r.nodes c.args.at) c.self.view_is
