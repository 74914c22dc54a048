use Rattle.std.proofs.Common.{List, ap, ◌∙◌, subst}
use Rattle.std.proofs.lemmas.List.{take_all}
use Rattle.liq_liquidation.specs.declared.one.Victim.{Victim}
use Rattle.liq_core.specs.Core.{Core, state_of}
use Rattle.liq_rule_step.specs.Liquidation.{offset_events, victim_changes}
use Rattle.liq_rule_sound.specs.SoundState.{IsSoundState}
use Rattle.liq_rule_sound.proofs.SoundStart.{started_with}
use Rattle.liq_core_lowest.proofs.ToldVictims.{next_at, others_at, course_at, events_at, changes_at}
use Rattle.liq_core.proofs.engine.Protocol.told.Goals as goal

pub pass-event-requires-clause-next : goal.pass-event-requires-clause-next
pass-event-requires-clause-next c =
    let sound = subst (λ (core : Core). IsSoundState (state_of core)) c.self.view_is
    (started_with _ _ c.self.invariant.image) in
    next_at (state_of c.args.self.now) sound c.args.victims.now c.requires.victims c.requires.few
    c.loop-victim.victim-index c.loop-victim-test.true c.loop-victim.course c.loop-victim.invariant.course

pub pass-event-requires-clause-others : goal.pass-event-requires-clause-others
pass-event-requires-clause-others c =
    let sound = subst (λ (core : Core). IsSoundState (state_of core)) c.self.view_is
    (started_with _ _ c.self.invariant.image) in
    others_at (state_of c.args.self.now) sound c.args.victims.now c.requires.victims c.requires.few
    c.loop-victim.victim-index c.loop-victim-test.true c.stake.result c.stake.ensures c.loop-victim.course
    c.loop-victim.invariant.course

pub loop-victim-preserved : goal.loop-victim-preserved
loop-victim-preserved c =
    let sound = subst (λ (core : Core). IsSoundState (state_of core)) c.self.view_is
    (started_with _ _ c.self.invariant.image) in
    let s = state_of c.args.self.now in
    let vs = c.args.victims.now in
    let i = c.loop-victim.victim-index in
    let within = c.loop-victim-test.true in
    let v = c.requires.victims in
    let few = c.requires.few in
    let h = c.loop-victim.invariant in
    let later = course_at s sound vs v few i within c.stake.result c.stake.ensures c.loop-victim.course
    c.pass-event.new.self h.course c.pass-event.ensures.after in
    record {
      course = later;
      events = events_at s sound vs v few i within c.loop-victim.course h.course c.pass-event.result
          c.pass-event.ensures.event c.loop-victim.told.events.items c.add.new.self.events.items h.events
          c.in_ok-add.ensures.events;
      changes = changes_at s sound vs v few i within c.pass-event.new.self later c.list_words.result
          c.list_words.ensures c.loop-victim.told.changes.items c.add.new.self.changes.items h.changes
          c.in_ok-add.ensures.changes;
    }

pub returns-clause-events : goal.returns-clause-events
returns-clause-events c =
    c.loop-victim.invariant.events ∙ ap (λ (vs : List Victim). offset_events (state_of c.args.self.now) vs)
    (take_all c.loop-victim.victim-index c.args.victims.now c.loop-victim-test.false)

pub returns-clause-changes : goal.returns-clause-changes
returns-clause-changes c =
    c.loop-victim.invariant.changes ∙ ap (λ (vs : List Victim). victim_changes (state_of c.args.self.now) vs)
    (take_all c.loop-victim.victim-index c.args.victims.now c.loop-victim-test.false)
