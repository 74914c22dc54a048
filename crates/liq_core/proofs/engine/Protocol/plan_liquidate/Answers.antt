use Rattle.std.proofs.Common.{[], ◌∷◌, refl, sym, ◌∙◌, subst, arith}
use Rattle.liq_liquidation.specs.declared.one.Victim.{Victim}
use Rattle.liq_core.specs.declared.effects.Victims.TheVariants as victims
use Rattle.liq_core.specs.Core.{Core, state_of}
use Rattle.liq_rule_sound.specs.SoundState.{IsSoundState}
use Rattle.liq_core.proofs.Planning.{liquidate_ruled}
use Rattle.liq_rule_sound.proofs.SoundStart.{started_with}
use Rattle.liq_core_lowest.proofs.ToldVictims.{next_at, others_at, course_at, events_at, changes_at}
use Rattle.liq_core.proofs.engine.Protocol.plan_liquidate.Goals as goal

pub pass-event-requires-clause-next : goal.pass-event-requires-clause-next
pass-event-requires-clause-next c =
    let sound = subst (λ (core : Core). IsSoundState (state_of core)) c.self.view_is
    (started_with _ _ c.self.invariant.image) in
    let v : Victim = record { account = c.args.account; one = c.in_ok-one.one } in
    next_at (state_of c.args.self.now) sound (v ∷ []) (sym c.one.ensures ∙ c.in_ok-one.was, tt) (omega arith) 0
    (omega arith) c.course-course.result c.course-course.ensures

pub pass-event-requires-clause-others : goal.pass-event-requires-clause-others
pass-event-requires-clause-others c =
    let sound = subst (λ (core : Core). IsSoundState (state_of core)) c.self.view_is
    (started_with _ _ c.self.invariant.image) in
    let v : Victim = record { account = c.args.account; one = c.in_ok-one.one } in
    others_at (state_of c.args.self.now) sound (v ∷ []) (sym c.one.ensures ∙ c.in_ok-one.was, tt) (omega arith) 0
    (omega arith) c.stake.result c.stake.ensures c.course-course.result c.course-course.ensures

pub returns : goal.returns
returns c =
    let sound = subst (λ (core : Core). IsSoundState (state_of core)) c.self.view_is
    (started_with _ _ c.self.invariant.image) in
    let s = state_of c.args.self.now in
    let v : Victim = record { account = c.args.account; one = c.in_ok-one.one } in
    let made = sym c.one.ensures ∙ c.in_ok-one.was in
    let later = course_at s sound (v ∷ []) (made, tt) (omega arith) 0 (omega arith) c.stake.result c.stake.ensures
    c.course-course.result c.pass-event.new.self c.course-course.ensures c.pass-event.ensures.after in
    liquidate_ruled s c.args.liquidator c.args.account c.in_ok-one.one made _ (victims.One (v ∷ [])) refl refl refl
    (events_at s sound (v ∷ []) (made, tt) (omega arith) 0 (omega arith) c.course-course.result c.course-course.ensures
    c.pass-event.result c.pass-event.ensures.event [] _ refl c.of.ensures)
    (changes_at s sound (v ∷ []) (made, tt) (omega arith) 0 (omega arith) c.pass-event.new.self later
    c.list_words.result c.list_words.ensures [] _ refl refl)
