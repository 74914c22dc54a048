use Rattle.std.proofs.Common.{Some, ap, sym, ◌∙◌, rules}
use Rattle.std.proofs.lemmas.Int.{to_z-of_z}
use Rattle.liq_order.specs.declared.places.Node.{Node}
use Rattle.liq_order.proofs.Seen.{key_at}
use Rattle.liq_order.proofs.linked.Nodes.key_of.Goals as goal
use mir.Syntax.{w128}
use mir.Val.{SFits}

pub returns : goal.returns
returns g c =
    let fits : SFits w128 c.key.result = search rules in
    let is = key_at c.args.self.now c.args.id c.in_ok-at.at c.in_ok-at.ensures.place in
    simp to_z-of_z (ap (λ k. Some k) (c.key.ensures ∙ ap (λ (n : Node). n.key) c.read.ensures.node) ∙ sym is)
