use Rattle.std.proofs.Common.{◌≡◌, List, [], ◌∷◌, Option, Some, None, sym, ◌∙◌, subst}
use Rattle.liq_order.specs.declared.places.Node.{Node}
use Rattle.liq_order.specs.declared.places.NodeNo.{NodeNo}
use Rattle.liq_order.specs.Nodes.{Ring, Visits, IsIn, at_place}
use Rattle.liq_order.specs.Order.{Ranked}
use Rattle.test_parts.proofs.troves.orders.along.Goals as goal

abbrev Left : Ring → Option NodeNo → Type 0
Left r start = (previous : Option NodeNo) × ((left : List Ranked) × Visits r start previous left)

visited : (r : Ring) (at : NodeNo) (start previous : Option NodeNo) (left : List Ranked) → start ≡ Some at
    → Visits r start previous left → IsIn at r.order × Left r (at_place r at).next
visited r at start previous [] is h = absurd (none (sym h ∙ is)) where
  none : None ≡ Some at → ⊥
  none e = cc
visited r at start previous (e ∷ es) is h = subst (λ (p : NodeNo). IsIn p r.order × Left r (at_place r p).next)
    (one (sym h.1 ∙ is)) (h.2.0, (Some h.0, (es, h.3))) where
      one : {p q : NodeNo} → Some p ≡ Some q → p ≡ q
      one e = cc

pub read-node-requires : goal.read-node-requires
read-node-requires g c =
    let i = c.loop-account.invariant in
    (visited c.nodes-nodes.result.now c.in-Some-Some.at c.loop-account.next i.0 i.1.0 c.in-Some-Some.is-1 i.1.1).0

pub loop-account-preserved-in-Some-next-2 : goal.loop-account-preserved-in-Some-next-2
loop-account-preserved-in-Some-next-2 g c =
    let i = c.loop-account.invariant in
    let nodes = c.nodes-nodes.result.now in
    subst (λ (n : Node). Left nodes n.next) (sym c.read-node.ensures.node)
    (visited nodes c.in-Some-Some.at c.loop-account.next i.0 i.1.0 c.in-Some-Some.is-1 i.1.1).1
