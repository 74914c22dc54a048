use Rattle.std.proofs.Common.{sym, subst, arith}
use Rattle.liq_liquidation.specs.declared.one.Victim.{Victim}
use Rattle.std.proofs.Common.{List}
use Rattle.liq_core.specs.Core.{IsWithin}
use Rattle.liq_core.specs.Effects.{room_of, room_to_strike}
use Rattle.liq_core.specs.declared.effects.Effect.{Effect}
use Rattle.liq_core.proofs.Rooms.{on_ok, within_itself}
use Rattle.liq_core.proofs.engine.Protocol.reserve_effect.Goals as goal

pub returns-in-Liquidate-clause-room : goal.returns-in-Liquidate-clause-room
returns-in-Liquidate-clause-room c =
    let new = c.reserve_liquidation.new.self.room in
    on_ok c.reserve_liquidation.result
    (λ h. subst (λ (e : Effect). IsWithin (room_of e) new) (sym c.in-Liquidate.is)
    (subst (λ (vs : List Victim). IsWithin (room_to_strike c.in-Liquidate.liquidator vs) new) c.as_slice.ensures
    (record {
      wallets = (h.0, tt);
      troves = tt;
      surplus = h.1;
      deposits = tt;
      clients = tt;
      list = omega arith;
      finished = h.2;
    })))
    c.reserve_liquidation.ensures.room

pub returns-in-Liquidate-clause-had : goal.returns-in-Liquidate-clause-had
returns-in-Liquidate-clause-had c h =
    let old = c.args.self.now.room in
    let there = subst (λ (vs : List Victim). IsWithin (room_to_strike c.in-Liquidate.liquidator vs) old)
    (sym c.as_slice.ensures)
    (subst (λ (e : Effect). IsWithin (room_of e) old) c.in-Liquidate.is h) in
    c.reserve_liquidation.ensures.had there.wallets.0 there.surplus there.finished

pub returns-in-Rotate-clause-kept : goal.returns-in-Rotate-clause-kept
returns-in-Rotate-clause-kept c = within_itself c.args.self.now.room
