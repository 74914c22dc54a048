use Rattle.liq_core.proofs.Paying.{priced}
use Rattle.liq_core.proofs.engine.Protocol.apply_price.Goals as goal

pub returns : goal.returns
returns c = priced c.self.inside c.args.self.now c.self.view_is c.self.invariant c.args.price
