use Rattle.liq_order.proofs.Seen.{next_in}
use Rattle.liq_order.proofs.linked.Nodes.ending.Goals as goal

pub read-node-requires : goal.read-node-requires
read-node-requires g c = next_in c.args.self.now c.args.entry c.args.gap c.in-Some.at c.requires c.in-Some.is
