use Rattle.liq_core.proofs.Rooms.{wallets_kept}
use Rattle.liq_core.proofs.engine.Protocol.reserve_wallet.Goals as goal

pub returns-clause-kept : goal.returns-clause-kept
returns-clause-kept c =
    wallets_kept c.args.self.now c.self.inside c.reserve.new.self c.self.view_is c.reserve.ensures.kept
