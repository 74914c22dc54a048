use Rattle.std.proofs.Common.{sym, subst}
use Rattle.std.specs.List.{AllByRecursion, Contains}
use Rattle.liq_liquidation.specs.declared.one.Victim.{Victim}
use Rattle.liq_core_lowest.specs.Victims.{AreVictims}
use Rattle.liq_core.specs.Core.{Core, state_of}
use Rattle.liq_core.specs.Sound.{core_of}
use Rattle.liq_core.proofs.Liquidating.{begun, liquidated_stands, liquidated_sound}
use Rattle.liq_rule_sound.proofs.SoundStart.{started_with}
use Rattle.liq_core.proofs.engine.Protocol.apply_liquidate.Goals as goal

pub strike-requires-clause-planned : goal.strike-requires-clause-planned
strike-requires-clause-planned c =
    let p = c.self.inside in (
      state_of (core_of p),
      started_with (core_of p).image p.records c.self.invariant.image,
      subst (λ (core : Core). AreVictims (state_of core) c.args.liquidator c.args.victims.now) (sym c.self.view_is)
          c.requires.victims,
      begun p c.self.invariant,
    )

pub strike-requires-clause-owners : goal.strike-requires-clause-owners
strike-requires-clause-owners c =
    subst (λ (core : Core). AllByRecursion (λ (v : Victim). Contains core.room.surplus v.account) c.args.victims.now)
    (sym c.self.view_is) c.requires.owners

pub invariant_of-self : goal.invariant_of-self
invariant_of-self c =
    let r = c.requires in
    let n = c.strike.new in
    liquidated_sound c.self.inside c.args.self.now c.self.view_is c.self.invariant c.args.command.now c.args.done
    c.args.liquidator c.args.victims.now
    (record { allowed = r.allowed; made = r.done; stays = r.stays; is = r.effect; victims = r.victims })
    n.wallets n.pools n.surplus n.troves n.order n.stability c.write.new.self c.strike.ensures c.write.ensures.rows

pub returns : goal.returns
returns c =
    let r = c.requires in
    let n = c.strike.new in
    liquidated_stands c.self.inside c.args.self.now c.self.view_is c.self.invariant c.args.command.now c.args.done
    c.args.liquidator c.args.victims.now
    (record { allowed = r.allowed; made = r.done; stays = r.stays; is = r.effect; victims = r.victims })
    n.wallets n.pools n.surplus n.troves n.order n.stability c.write.new.self c.strike.ensures c.write.ensures.rows
