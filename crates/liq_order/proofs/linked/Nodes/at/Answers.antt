use Rattle.std.proofs.Common.{ap, ◌∙◌}
use Rattle.liq_order.specs.Nodes.{Ring, memory, node_of}
use Rattle.liq_order.proofs.Seen.{at_there, at_none}
use Rattle.liq_order.proofs.linked.Nodes.at.Goals as goal

pub returns-clause-there : goal.returns-clause-there
returns-clause-there g c =
    let place = c.find.ensures.place ∙ c.self.invariant.0.told c.args.id
    ∙ ap (λ (r : Ring). node_of (memory r.nodes) r.order c.args.id) c.self.view_is in
    at_there c.args.self.now c.args.id c.find.result place

pub returns-clause-none : goal.returns-clause-none
returns-clause-none g c =
    let place = c.find.ensures.place ∙ c.self.invariant.0.told c.args.id
    ∙ ap (λ (r : Ring). node_of (memory r.nodes) r.order c.args.id) c.self.view_is in
    at_none c.args.self.now c.args.id c.find.result place
