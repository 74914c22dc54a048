use Rattle.std.proofs.Common.{sym, subst, ap, arith, length}
use Rattle.std.specs.List.{Contains}
use Rattle.liq_core.specs.Core.{AreAmong, Core}
use Rattle.liq_core.specs.Effects.{closed}
use Rattle.liq_core.proofs.Rooms.{among_closed}
use Rattle.liq_core.proofs.Redeeming.{redeem_parts, redeem_planned, wallets_ascend, redeem_changes, redeem_sound}
use Rattle.liq_core.proofs.engine.Protocol.apply_redeem.Goals as goal

pub apply-requires-clause-sound : goal.apply-requires-clause-sound
apply-requires-clause-sound g c = redeem_parts c.self.inside c.self.invariant c.args.account

pub apply-requires-clause-planned : goal.apply-requires-clause-planned
apply-requires-clause-planned g c = redeem_planned c.self.inside c.args.self.now c.self.view_is c.self.invariant
    c.args.account c.args.taken.now c.requires.range c.requires.planned

pub apply-requires-clause-ascend : goal.apply-requires-clause-ascend
apply-requires-clause-ascend g c = wallets_ascend c.self.inside c.self.invariant

pub apply-requires-clause-room : goal.apply-requires-clause-room
apply-requires-clause-room g c =
    let cuts = c.args.taken.now.cuts in
    let its = sym c.self.view_is in (
      subst (λ (core : Core). Contains core.room.wallets c.args.account) its c.requires.wallet,
      among_closed c.self.inside.surplus cuts (subst (λ (core : Core). AreAmong (closed cuts) core.room.surplus) its
          c.requires.claims),
    )

pub invariant_of-self : goal.invariant_of-self
invariant_of-self g c =
    redeem_sound c.self.inside c.args.self.now c.self.view_is c.self.invariant c.args.account c.args.taken.now
    c.requires.range c.requires.planned
    c.apply.new.wallets c.apply.new.pools c.apply.new.surplus c.apply.new.troves c.apply.new.order
    c.apply.ensures.wallets c.apply.ensures.parts

pub returns-clause-made : goal.returns-clause-made
returns-clause-made g c =
    redeem_changes c.self.inside c.args.self.now c.self.view_is c.self.invariant c.args.account c.args.taken.now
    c.requires.range c.requires.planned
    c.apply.new.wallets c.apply.new.pools c.apply.new.surplus c.apply.new.troves c.apply.new.order
    c.apply.ensures.wallets c.apply.ensures.parts

pub returns-clause-any : goal.returns-clause-any
returns-clause-any g c =
    let any = c.apply.ensures.any in
    let same = ap (λ (core : Core). length core.list) c.self.view_is in
    omega (arith, any, same)
