use Rattle.std.proofs.Common.{arith, sym, subst}
use Rattle.std.specs.List.{Contains}
use Rattle.liq_core.specs.Core.{AreAmong, Core}
use Rattle.liq_core.specs.Effects.{closed}
use Rattle.liq_core.proofs.Rooms.{among_closed, closed_among, on_ok, room_kept}
use Rattle.liq_core.proofs.engine.Protocol.reserve_redemption.Goals as goal

pub returns-clause-room : goal.returns-clause-room
returns-clause-room c = on_ok c.reserve.result (λ h. (h.0, closed_among c.reserve.new.surplus c.args.plan.now.cuts h.1))
    c.reserve.ensures.room

pub returns-clause-kept : goal.returns-clause-kept
returns-clause-kept c =
    room_kept c.args.self.now c.self.inside (record c.self.inside {
      wallets = c.reserve.new.wallets;
      surplus = c.reserve.new.surplus;
    }) c.self.view_is c.reserve.ensures.wallets_kept
    (λ _ h. h) c.reserve.ensures.claims_kept (λ _ h. h) (λ _ h. h) (omega arith) (omega arith)

pub returns-clause-had : goal.returns-clause-had
returns-clause-had c wallet claims =
    let cuts = c.args.plan.now.cuts in
    let its = sym c.self.view_is in
    c.reserve.ensures.had (
      subst (λ (core : Core). Contains core.room.wallets c.args.account) its wallet,
      among_closed c.self.inside.surplus cuts (subst (λ (core : Core). AreAmong (closed cuts) core.room.surplus) its
          claims),
    )
