use Rattle.std.proofs.Common.{None, Some, option_map, ap, sym, ◌∙◌, subst}
use Rattle.liq_order.specs.Listed.{AreDistinct}
use Rattle.liq_order.specs.declared.places.Node.{Node}
use Rattle.liq_order.specs.Nodes.{Ring, memory, at_place, entries, Linked}
use Rattle.liq_order.proofs.Seen.{before_of, previous_in}
use Rattle.liq_order.proofs.linked.Nodes.before.Goals as goal

pub returns-in_err-previous : goal.returns-in_err-previous
returns-in_err-previous g c =
    let ring = c.args.self.now in
    let linked = subst (λ (r : Ring). Linked (memory r.nodes) None r.order None) c.self.view_is
    c.self.invariant.0.linked in
    let distinct = subst (λ (r : Ring). AreDistinct (entries r)) c.self.view_is c.self.invariant.0.distinct in
    let previous = sym (ap (λ (n : Node). n.previous) c.read.ensures.node) ∙ c.in_err-previous.was in
    c.from_residual-in_err-previous.ensures
    ∙ sym (before_of ring c.args.id c.in_ok-at.at linked distinct c.in_ok-at.ensures.place
    ∙ ap (λ o. option_map (λ q. (at_place ring q).account) o) previous)

pub read-requires-2 : goal.read-requires-2
read-requires-2 g c =
    let linked = subst (λ (r : Ring). Linked (memory r.nodes) None r.order None) c.self.view_is
    c.self.invariant.0.linked in
    let previous = sym (ap (λ (n : Node). n.previous) c.read.ensures.node) ∙ c.in_ok-previous.was in
    previous_in c.args.self.now c.args.id c.in_ok-at.at c.in_ok-previous.previous linked c.in_ok-at.ensures.place
    previous

pub returns : goal.returns
returns g c =
    let ring = c.args.self.now in
    let linked = subst (λ (r : Ring). Linked (memory r.nodes) None r.order None) c.self.view_is
    c.self.invariant.0.linked in
    let distinct = subst (λ (r : Ring). AreDistinct (entries r)) c.self.view_is c.self.invariant.0.distinct in
    let previous = sym (ap (λ (n : Node). n.previous) c.read.ensures.node) ∙ c.in_ok-previous.was in
    ap (λ (n : Node). Some n.account) c.read-2.ensures.node
    ∙ sym (before_of ring c.args.id c.in_ok-at.at linked distinct c.in_ok-at.ensures.place
    ∙ ap (λ o. option_map (λ q. (at_place ring q).account) o) previous)
