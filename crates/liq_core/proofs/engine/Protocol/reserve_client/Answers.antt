use Rattle.std.proofs.Common.{arith}
use Rattle.liq_core.proofs.Rooms.{room_kept}
use Rattle.liq_core.proofs.engine.Protocol.reserve_client.Goals as goal

pub returns-clause-kept : goal.returns-clause-kept
returns-clause-kept c =
    room_kept c.args.self.now c.self.inside (record c.self.inside { clients = c.reserve.new.self }) c.self.view_is
    (λ _ h. h) (λ _ h. h) (λ _ h. h) (λ _ h. h) c.reserve.ensures.kept (omega arith) (omega arith)
