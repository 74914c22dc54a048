use Rattle.std.proofs.Common.{arith}
use Rattle.liq_core.proofs.Rooms.{room_kept, wallets_kept}
use Rattle.liq_core.proofs.engine.Protocol.reserve_deposit.Goals as goal

pub returns-in_err-reserve-clause-kept : goal.returns-in_err-reserve-clause-kept
returns-in_err-reserve-clause-kept c =
    wallets_kept c.args.self.now c.self.inside c.reserve.new.self c.self.view_is c.reserve.ensures.kept

pub returns-clause-kept : goal.returns-clause-kept
returns-clause-kept c =
    room_kept c.args.self.now c.self.inside (record c.self.inside {
      wallets = c.reserve.new.self;
      pool = c.reserve-2.new.self;
    }) c.self.view_is c.reserve.ensures.kept (λ _ h. h)
    (λ _ h. h) c.reserve-2.ensures.kept (λ _ h. h) (omega arith) c.reserve-2.ensures.spare
