use Rattle.std.proofs.Common.{sym, rules}
use Rattle.liq_follower.proofs.Growing.{with_last}
use Rattle.liq_follower.proofs.held.Held.with.Goals as goal

pub returns : goal.returns
returns c = with_last c.self.inside.bytes c.args.self.now c.self.inside.count c.args.last (search rules)
    (sym c.self.view_is) c.requires
