use Rattle.std.proofs.Common.{[], None, refl, subst}
use Rattle.liq_order.specs.Nodes.{Ring, Linked, memory}
use Rattle.liq_order.proofs.Seen.{visits}
use Rattle.liq_order.proofs.linked.Nodes.in_order.Goals as goal

pub returns-clause-all : goal.returns-clause-all
returns-clause-all c =
    let ring = c.args.self.now in
    visits ring [] ring.order None refl (subst (λ (r : Ring). Linked (memory r.nodes) None r.order None) c.self.view_is
    c.self.invariant.0.linked)
