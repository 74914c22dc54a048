use Rattle.std.proofs.Common.{None, Some, option_map, ap, sym, ◌∙◌}
use Rattle.liq_order.specs.declared.places.Node.{Node}
use Rattle.liq_order.specs.Nodes.{Ring, memory, last_or}
use Rattle.liq_order.proofs.Chains.{in_last}
use Rattle.liq_order.proofs.Seen.{last_of}
use Rattle.liq_order.proofs.linked.Nodes.end.Goals as goal

pub returns-in_err-last : goal.returns-in_err-last
returns-in_err-last g c =
    let ring = c.args.self.now in
    let last = c.self.invariant.0.last_is ∙ ap (λ (r : Ring). last_or None r.order) c.self.view_is in
    c.from_residual.ensures
    ∙ sym (last_of (memory ring.nodes) ring.order ∙ ap (λ o. option_map (λ q. (memory ring.nodes q).account) o)
    (sym last ∙ sym c.last.ensures ∙ c.in_err-last.was))

pub read-requires : goal.read-requires
read-requires g c =
    let last = c.self.invariant.0.last_is ∙ ap (λ (r : Ring). last_or None r.order) c.self.view_is in
    in_last c.args.self.now.order c.in_ok-last.last (sym last ∙ sym c.last.ensures ∙ c.in_ok-last.was)

pub returns : goal.returns
returns g c =
    let ring = c.args.self.now in
    let last = c.self.invariant.0.last_is ∙ ap (λ (r : Ring). last_or None r.order) c.self.view_is in
    ap (λ (n : Node). Some n.account) c.read.ensures.node
    ∙ sym (last_of (memory ring.nodes) ring.order ∙ ap (λ o. option_map (λ q. (memory ring.nodes q).account) o)
    (sym last ∙ sym c.last.ensures ∙ c.in_ok-last.was))
