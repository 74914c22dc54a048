use Rattle.liq_core.proofs.Rooms.{wallets_kept}
use Rattle.liq_core.proofs.engine.Protocol.reserve_wallets.Goals as goal

pub returns-in_err-reserve-clause-kept : goal.returns-in_err-reserve-clause-kept
returns-in_err-reserve-clause-kept c =
    wallets_kept c.args.self.now c.self.inside c.reserve.new.self c.self.view_is c.reserve.ensures.kept

pub returns-clause-kept : goal.returns-clause-kept
returns-clause-kept c =
    wallets_kept c.args.self.now c.self.inside c.reserve-2.new.self c.self.view_is
    (λ k h. c.reserve-2.ensures.kept k (c.reserve.ensures.kept k h))
