use Rattle.std.proofs.Common.{ap, sym, ◌∙◌, subst}
use Rattle.std.specs.Prelude.{MatchResult}
use Rattle.liq_types.specs.Totals.{market_of}
use Rattle.liq_stability.specs.declared.words.PoolWords.{PoolWords}
use Rattle.liq_liquidation.specs.Lowest.{AreParts}
use Rattle.liq_liquidation.specs.Moment.{IsSoundMoment, moment_by}
use Rattle.liq_core_lowest.specs.Lowest.{AreLowest, IsNoPlan}
use Rattle.liq_core.specs.Core.{Core, state_of}
use Rattle.liq_core.specs.Sound.{core_of}
use Rattle.liq_core.proofs.Planning.{its_parts, its_moment, troves_sound}
use Rattle.liq_core.proofs.SoundCores.{core_finds}
use Rattle.liq_core.proofs.engine.Protocol.lowest.Goals as goal

pub plan_victims-requires-clause-sound : goal.plan_victims-requires-clause-sound
plan_victims-requires-clause-sound c =
    let p = c.self.inside in
    let is = c.market.ensures.market ∙ sym (ap (λ (core : Core). market_of (state_of core)) c.self.view_is) in
    subst (λ (w : PoolWords). IsSoundMoment (moment_by c.market.result p.troves.sums p.troves.table.rows w))
    (sym c.words.ensures.words) (its_moment p c.self.invariant c.market.result is)

pub returns : goal.returns
returns c =
    let p = c.self.inside in
    let s = state_of (core_of p) in
    let is = c.market.ensures.market ∙ sym (ap (λ (core : Core). market_of (state_of core)) c.self.view_is) in
    let parts = subst (λ (w : PoolWords). AreParts s c.market.result p.troves.sums p.troves.table.rows p.order.entries
    w) (sym c.words.ensures.words) (its_parts p c.self.invariant c.market.result is) in
    let made = c.plan_victims.ensures s parts (troves_sound s (core_finds (core_of p) c.self.invariant.image)) in
    subst (λ (core : Core). MatchResult c.plan_victims.result (λ v. AreLowest (state_of core) c.args.count v.items)
    (IsNoPlan (state_of core) c.args.count)) c.self.view_is made
