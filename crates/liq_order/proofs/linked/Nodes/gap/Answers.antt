use Rattle.std.proofs.Common.{arith}
use Rattle.std.proofs.lemmas.List.{length-map}
use Rattle.liq_order.specs.Nodes.{entry_of, memory}
use Rattle.liq_order.specs.declared.places.NodeNo.{NodeNo}
use Rattle.liq_order.proofs.linked.Nodes.gap.Goals as goal

pub returns-in-None-clause-any : goal.returns-in-None-clause-any
returns-in-None-clause-any g c =
    let all = length-map c.args.self.now.order (λ (p : NodeNo). entry_of (memory c.args.self.now.nodes p)) in
    omega (arith, c.hinted_gap.ensures.steps, c.walk.ensures.steps, all)
