use Rattle.std.proofs.Common.{arith, sym, subst}
use Rattle.std.specs.Prelude.{map}
use Rattle.liq_liquidation.specs.declared.one.Victim.{Victim}
use Rattle.liq_core.specs.Core.{AreAmong, Core}
use Rattle.liq_core.proofs.Rooms.{among_owners, on_ok, owners_among, room_kept, wallets_kept}
use Rattle.liq_core.proofs.engine.Protocol.reserve_liquidation.Goals as goal

pub returns-in_err-reserve-clause-kept : goal.returns-in_err-reserve-clause-kept
returns-in_err-reserve-clause-kept c =
    wallets_kept c.args.self.now c.self.inside c.reserve.new.self c.self.view_is c.reserve.ensures.kept

pub returns-in_err-reserve_owners-clause-kept : goal.returns-in_err-reserve_owners-clause-kept
returns-in_err-reserve_owners-clause-kept c =
    room_kept c.args.self.now c.self.inside (record c.self.inside {
      wallets = c.reserve.new.self;
      surplus = c.reserve_owners.new.surplus;
    }) c.self.view_is c.reserve.ensures.kept
    (λ _ h. h) c.reserve_owners.ensures.kept (λ _ h. h) (λ _ h. h) (omega arith) (omega arith)

pub returns-in_err-reserve_owners-clause-had : goal.returns-in_err-reserve_owners-clause-had
returns-in_err-reserve_owners-clause-had c wallet owners finished =
    let had = subst (λ (core : Core). AreAmong (map (λ (v : Victim). v.account) c.args.victims.now) core.room.surplus)
    (sym c.self.view_is) owners in
    let room = c.in_err-reserve_owners.ensures.had (among_owners c.self.inside.surplus.room c.args.victims.now had) in
    cc

pub returns-clause-room : goal.returns-clause-room
returns-clause-room c =
    on_ok c.reserve-2.result (λ n. (
      c.in_ok-reserve.ensures.room,
      owners_among c.reserve_owners.new.surplus.room c.args.victims.now c.in_ok-reserve_owners.ensures.room,
      n,
    )) c.reserve-2.ensures.offsets

pub returns-clause-kept : goal.returns-clause-kept
returns-clause-kept c =
    room_kept c.args.self.now c.self.inside (record c.self.inside {
      wallets = c.reserve.new.self;
      surplus = c.reserve_owners.new.surplus;
      pool = c.reserve-2.new.self;
    }) c.self.view_is c.reserve.ensures.kept
    (λ _ h. h) c.reserve_owners.ensures.kept c.reserve-2.ensures.kept (λ _ h. h)
    (omega arith) c.reserve-2.ensures.spare
