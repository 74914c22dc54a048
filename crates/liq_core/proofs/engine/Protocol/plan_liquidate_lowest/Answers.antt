use Rattle.std.proofs.Common.{◌<◌, ◌≤◌, ◌^◌, List, length, refl, ap, sym, ◌∙◌, subst}
use Rattle.std.specs.Prelude.{sum_by}
use Rattle.liq_types.specs.declared.amounts.TheConstants.{LOWEST_MOST}
use Rattle.liq_liquidation.specs.declared.one.Victim.{Victim}
use Rattle.liq_core.specs.declared.effects.Victims.TheVariants as victims
use Rattle.liq_core.specs.Core.{Core, state_of}
use Rattle.liq_rule_step.specs.Liquidation.{lowest_values, offset_events, victim_changes}
use Rattle.liq_rule_step.specs.Rules.{six}
use Rattle.liq_rule_sound.specs.SoundState.{IsSoundState}
use Rattle.liq_core_lowest.specs.Lowest.{IsNoPlan}
use Rattle.liq_core_lowest.specs.Victims.{AreVictims}
use Rattle.liq_core.proofs.Planning.{lowest_fits, lowest_ruled}
use Rattle.liq_rule_sound.proofs.SoundStart.{started_with}
use Rattle.liq_core.proofs.engine.Protocol.plan_liquidate_lowest.Goals as goal

pub told-requires-clause-few : goal.told-requires-clause-few
told-requires-clause-few c =
    let sound = subst (λ (core : Core). IsSoundState (state_of core)) c.self.view_is
    (started_with _ _ c.self.invariant.image) in
    let fits = lowest_fits (state_of c.args.self.now) sound c.args.count c.in-Ok.victims.items c.in-Ok.ensures in
    let same = c.as_slice.ensures.value in
    subst (λ (l : List Victim). length l ≤ LOWEST_MOST) (sym same) fits.few

pub told-requires-clause-victims : goal.told-requires-clause-victims
told-requires-clause-victims c =
    let sound = subst (λ (core : Core). IsSoundState (state_of core)) c.self.view_is
    (started_with _ _ c.self.invariant.image) in
    let fits = lowest_fits (state_of c.args.self.now) sound c.args.count c.in-Ok.victims.items c.in-Ok.ensures in
    subst (λ (l : List Victim). AreVictims (state_of c.args.self.now) 0 l) (sym c.as_slice.ensures.value) fits.victims

pub lowest_done-requires-clause-gas : goal.lowest_done-requires-clause-gas
lowest_done-requires-clause-gas c =
    let sound = subst (λ (core : Core). IsSoundState (state_of core)) c.self.view_is
    (started_with _ _ c.self.invariant.image) in
    let fits = lowest_fits (state_of c.args.self.now) sound c.args.count c.in-Ok.victims.items c.in-Ok.ensures in
    subst (λ (l : List Victim). sum_by (λ (v : Victim). v.one.gas) l < 2 ^ 64) (sym c.as_slice-2.ensures.value) fits.gas

pub lowest_done-requires-clause-debt : goal.lowest_done-requires-clause-debt
lowest_done-requires-clause-debt c =
    let sound = subst (λ (core : Core). IsSoundState (state_of core)) c.self.view_is
    (started_with _ _ c.self.invariant.image) in
    let fits = lowest_fits (state_of c.args.self.now) sound c.args.count c.in-Ok.victims.items c.in-Ok.ensures in
    subst (λ (l : List Victim). sum_by (λ (v : Victim). v.one.offset_debt) l < 2 ^ 64) (sym c.as_slice-2.ensures.value)
    fits.debt

pub lowest_done-requires-clause-coll : goal.lowest_done-requires-clause-coll
lowest_done-requires-clause-coll c =
    let sound = subst (λ (core : Core). IsSoundState (state_of core)) c.self.view_is
    (started_with _ _ c.self.invariant.image) in
    let fits = lowest_fits (state_of c.args.self.now) sound c.args.count c.in-Ok.victims.items c.in-Ok.ensures in
    subst (λ (l : List Victim). sum_by (λ (v : Victim). v.one.offset_coll) l < 2 ^ 64) (sym c.as_slice-2.ensures.value)
    fits.coll

pub returns : goal.returns
returns c =
    let s = state_of c.args.self.now in
    let vs = c.in-Ok.victims.items in
    lowest_ruled s c.args.liquidator c.args.count vs c.in-Ok.ensures _ (victims.Many c.in-Ok.victims)
    (c.lowest_done.ensures ∙ ap (λ (l : List Victim). record { kind = 13; values = six (lowest_values l) })
    c.as_slice-2.ensures.value)
    refl refl
    (c.in-Ok-told.ensures.events ∙ ap (λ (l : List Victim). offset_events s l) c.as_slice.ensures.value)
    (c.in-Ok-told.ensures.changes ∙ ap (λ (l : List Victim). victim_changes s l) c.as_slice.ensures.value)

pub returns-in-Err-NoMemory : goal.returns-in-Err-NoMemory
returns-in-Err-NoMemory c = (
  refl,
  subst (IsNoPlan (state_of c.args.self.now) c.args.count) c.in-Err-NoMemory.field-0-is
      c.in-Err-NoMemory.ensures,
)

pub returns-in-Err : goal.returns-in-Err
returns-in-Err c = (refl, c.in-Ok.ensures.0)
