use Rattle.std.proofs.Common.{sym, subst}
use Rattle.liq_core.specs.Core.{IsWithin}
use Rattle.liq_core.specs.Effects.{room_of}
use Rattle.liq_core.specs.Plan.{Plan, room_for}
use Rattle.liq_core.proofs.Rooms.{among_key, on_ok, with_client, without_client, within_then}
use Rattle.liq_core.proofs.engine.Protocol.reserve.Goals as goal

pub returns-clause-room : goal.returns-clause-room
returns-clause-room c =
    let mid = c.reserve_client.new.self.room in
    let new = c.reserve_effect.new.self.room in
    let command = c.planned.inside.command in
    let needed = room_of c.planned.inside.forecast.effect in
    let client = among_key mid.clients new.clients c.reserve_effect.ensures.kept.clients command.client
    c.in_ok-reserve_client.ensures.room in
    on_ok c.reserve_effect.result (λ h. subst (λ (p : Plan). IsWithin (room_for p) new) c.planned.view_is
    (with_client needed new command.client h client)) c.reserve_effect.ensures.room

pub returns-clause-kept : goal.returns-clause-kept
returns-clause-kept c = within_then c.args.self.now.room c.reserve_client.new.self.room c.reserve_effect.new.self.room
    c.reserve_client.ensures.kept c.reserve_effect.ensures.kept

pub returns-clause-had : goal.returns-clause-had
returns-clause-had c h =
    let old = c.args.self.now.room in
    let command = c.planned.inside.command in
    let needed = room_of c.planned.inside.forecast.effect in
    let its = subst (λ (p : Plan). IsWithin (room_for p) old) (sym c.planned.view_is) h in
    c.reserve_effect.ensures.had (within_then needed old c.reserve_client.new.self.room
    (without_client c.planned.inside.forecast.effect old command.client its) c.reserve_client.ensures.kept)
