use Rattle.std.specs.List.{AllByRecursion, Contains}
use Rattle.std.proofs.Common.{◌≡◌, ◌<◌, ℕ, List, ap, sym, ◌∙◌, arith, subst, None}
use Rattle.liq_types.specs.declared.amounts.TheConstants.{ACCOUNTS}
use Rattle.liq_types.specs.declared.events.ListChange.{ListChange}
use Rattle.liq_types.specs.declared.hints.Hint.{Hint}
use Rattle.liq_types.specs.declared.hints.HintWords.{HintWords}
use Rattle.liq_types.specs.declared.requests.Call.{Call}
use Rattle.liq_types.specs.declared.requests.Command.{Command}
use Rattle.liq_types.specs.Ranked.{Ranked}
use Rattle.liq_types.specs.Rules.{first_refusal}
use Rattle.liq_types.specs.State.{State}
use Rattle.liq_order.specs.Order.{trove_order}
use Rattle.liq_trove_moves.specs.Steps.{TakesFew}
use Rattle.liq_core.specs.Steps.{entry_put, last_put, used_hint, words_of}
use Rattle.liq_core.proofs.Rooms.{without_client}
use Rattle.liq_core.proofs.Stepping.{made_so, move_makes, planned_puts, takes_same}
use Rattle.liq_types.specs.Soundness.{IsSoundImage}
use Rattle.liq_liquidation.specs.declared.one.Victim.{Victim}
use Rattle.liq_core.specs.declared.effects.Effect.{Effect}
use Rattle.liq_core.specs.declared.effects.Effect.TheVariants as effects
use Rattle.liq_core.specs.declared.effects.Move.{Move}
use Rattle.liq_core.specs.declared.effects.Victims.{Victims}
use Rattle.liq_core.specs.declared.turns.Planned.TheInside.{Inside}
use Rattle.liq_core.specs.Core.{Core, IsWithin, StandsFor, state_of}
use Rattle.liq_core.specs.Effects.{IsEffect, IsMove, room_of, victims_in, words_in}
use Rattle.liq_core.specs.Plan.{Plan, IsPlan, IsPlannedOn, IsSoundPlan, HasRoom, plan_of}
use Rattle.liq_core.specs.Sound.{IsKeptRow}
use Rattle.liq_types.specs.declared.requests.Request.TheVariants.{Do}
use Rattle.liq_rule_step.specs.Step.{Allowed, Ruling, step, after, done_of, rules, effect, noted, after_ruling, ruling}
use Rattle.liq_rule_step.proofs.Allowed.{allowed_number, allowed_rules, allowed_few}
use Rattle.liq_core.proofs.KeptReplies.{kept_reply}
use Rattle.liq_core.proofs.Liquidating.{IsLiquidation, liquidation_planned}
use Rattle.liq_core.proofs.Stands.{changed_stands, stepped_stands}
use Rattle.liq_core.proofs.SoundCores.{sound_stands}
use Rattle.liq_core.proofs.engine.Protocol.apply_planned.Given.{Over}
use Rattle.liq_core.proofs.engine.Protocol.apply_planned.Goals as goal
use Rattle.liq_core.proofs.engine.Protocol.apply_planned.Goals.{in-Move, in-Liquidate, in-Rotate}

-- what is planned is of the state, seen by its inside
plan_inside : (old : Core) → IsSoundImage old.image old.records → (inside : Inside) (plan : Plan)
    → plan_of inside.command inside.forecast ≡ plan → IsPlannedOn old plan
    → IsPlan (state_of old) (plan_of inside.command inside.forecast)
plan_inside old sound inside plan view planned =
    subst (λ (p : Plan). IsPlan (state_of old) p) (sym view) (planned (state_of old) (sound_stands old sound))

-- the call makes the planned move
made_inside : (old : Core) → IsSoundImage old.image old.records → (inside : Inside) (plan : Plan)
    → plan_of inside.command inside.forecast ≡ plan → IsPlannedOn old plan → (moved : Move)
    → inside.forecast.effect ≡ effects.Move moved → IsMove (state_of old) inside.command.call moved
made_inside old sound inside plan view planned moved is =
    subst (IsEffect (state_of old) inside.command.call) is (plan_inside old sound inside plan view planned).effect

-- what is planned has room, seen by its inside
room_inside : (old : Core) (inside : Inside) (plan : Plan) → plan_of inside.command inside.forecast ≡ plan
    → HasRoom old plan → HasRoom old (plan_of inside.command inside.forecast)
room_inside old inside plan view room = subst (λ (p : Plan). HasRoom old p) (sym view) room

-- the call makes the move, before it is made and after
may_move : (g : Over) (c : goal.After-change-arg-in-Move-1 g)
    → IsMove (state_of c.args.self.now) c.planned.inside.command.call c.in-Move.moved
may_move g c =
    let sound = subst (λ (core : Core). IsSoundImage core.image core.records) c.self.view_is c.self.invariant.image in
    made_inside c.args.self.now sound c.planned.inside c.args.planned.now c.planned.view_is c.requires.planned
    c.in-Move.moved c.in-Move.is

has_moved : (g : Over) (c : goal.After-note-arg-1 g)
    → IsMove (state_of c.args.self.now) c.planned.inside.command.call c.in-Move.moved
has_moved g c =
    let sound = subst (λ (core : Core). IsSoundImage core.image core.records) c.self.view_is c.self.invariant.image in
    made_inside c.args.self.now sound c.planned.inside c.args.planned.now c.planned.view_is c.requires.planned
    c.in-Move.moved c.in-Move.is

pub change-requires-clause-allowed : goal.change-requires-clause-allowed
change-requires-clause-allowed g c =
    let sound = subst (λ (core : Core). IsSoundImage core.image core.records) c.self.view_is c.self.invariant.image in
    let s = state_of c.args.self.now in
    let inside = c.planned.inside in
    let plan = plan_inside c.args.self.now sound inside c.args.planned.now c.planned.view_is c.requires.planned in
    made_so s inside.command.call c.in-Move.moved (may_move g c) (λ (k : Call). first_refusal (rules s k) ≡ None)
    (allowed_rules s inside.command plan.allowed)

pub change-requires-clause-range : goal.change-requires-clause-range
change-requires-clause-range g c =
    subst (λ (keys : List ℕ). AllByRecursion (λ account. account < ACCOUNTS) keys)
    (move_makes (state_of c.args.self.now) c.planned.inside.command.call c.in-Move.moved (may_move g c)).names
    c.planned.invariant.accounts

pub change-requires-clause-room : goal.change-requires-clause-room
change-requires-clause-room g c =
    let inside = c.planned.inside in
    let old = c.args.self.now.room in
    let room = room_inside c.args.self.now inside c.args.planned.now c.planned.view_is c.requires.room in
    subst (λ (e : Effect). IsWithin (room_of e) old) c.in-Move.is (without_client inside.forecast.effect old
    inside.command.client room)

pub note-requires-clause-stays : goal.note-requires-clause-stays
note-requires-clause-stays g c =
    (move_makes (state_of c.args.self.now) c.planned.inside.command.call c.in-Move.moved (has_moved g c)).stays

pub note-requires-clause-row : goal.note-requires-clause-row
note-requires-clause-row g c =
    let inside = c.planned.inside in
    subst (λ keys. Contains keys inside.command.client)
    (sym (c.change.ensures.made inside.command.call (has_moved g c)).clients)
    (room_inside c.args.self.now inside c.args.planned.now c.planned.view_is c.requires.room).clients.0

pub note-requires-clause-range : goal.note-requires-clause-range
note-requires-clause-range g c = c.planned.invariant.client

pub note-requires-clause-number : goal.note-requires-clause-number
note-requires-clause-number g c =
    let sound = subst (λ (core : Core). IsSoundImage core.image core.records) c.self.view_is c.self.invariant.image in
    let plan = c.requires.planned (state_of c.args.self.now) (sound_stands c.args.self.now sound) in
    let number = allowed_number (state_of c.args.self.now) c.args.planned.now.command plan.allowed in
    let same = ap (λ (p : Plan). p.command.number) c.planned.view_is in
    omega (arith, number, same)

pub note-requires-clause-few : goal.note-requires-clause-few
note-requires-clause-few g c =
    let sound = subst (λ (core : Core). IsSoundImage core.image core.records) c.self.view_is c.self.invariant.image in
    let s = state_of c.args.self.now in
    let inside = c.planned.inside in
    let plan = plan_inside c.args.self.now sound inside c.args.planned.now c.planned.view_is c.requires.planned in
    let made = has_moved g c in
    let few = allowed_few s inside.command plan.allowed (move_makes s inside.command.call c.in-Move.moved made).stays in
    let same = (c.change.ensures.made inside.command.call made).records in
    omega (arith, few, same)

pub note-requires-clause-kept : goal.note-requires-clause-kept
note-requires-clause-kept g c =
    let sound = subst (λ (core : Core). IsSoundImage core.image core.records) c.self.view_is c.self.invariant.image in
    let s = state_of c.args.self.now in
    let plan = c.requires.planned s (sound_stands c.args.self.now sound) in
    let command = c.args.planned.now.command in
    let number = allowed_number s command plan.allowed in
    let kept = kept_reply s command.call command.number (allowed_rules s command plan.allowed) (omega (arith, number))
    in
    subst (λ (p : Plan). IsKeptRow (record { last = p.command.number; kept = p.done })) (sym c.planned.view_is)
    (subst (λ d. IsKeptRow (record { last = command.number; kept = d })) (sym plan.done) kept)

-- what is planned, where it liquidates
liquidation : (old : Core) → IsSoundImage old.image old.records → (inside : Inside) (plan : Plan)
    → plan_of inside.command inside.forecast ≡ plan → IsPlannedOn old plan
    → IsSoundPlan (plan_of inside.command inside.forecast) → HasRoom old plan → (liquidator : ℕ) (struck : Victims)
    → inside.forecast.effect ≡ effects.Liquidate liquidator struck → (vs : List Victim) → vs ≡ victims_in struck
    → IsLiquidation old inside.command inside.forecast.done liquidator vs
liquidation old sound inside plan view planned fit room liquidator struck is vs same =
    let its = plan_of inside.command inside.forecast in
    subst (λ (us : List Victim). IsLiquidation old inside.command inside.forecast.done liquidator us) (sym same)
    (liquidation_planned old sound its (subst (λ (p : Plan). IsPlannedOn old p) (sym view) planned) fit
    (subst (λ (p : Plan). HasRoom old p) (sym view) room) liquidator struck is)

its_liquidation : (g : Over) (c : goal.After-as_slice g) → IsLiquidation c.args.self.now c.planned.inside.command
    c.planned.inside.forecast.done c.in-Liquidate.liquidator c.as_slice.result.now
its_liquidation g c =
    let sound = subst (λ (core : Core). IsSoundImage core.image core.records) c.self.view_is c.self.invariant.image in
    liquidation c.args.self.now sound c.planned.inside c.args.planned.now c.planned.view_is c.requires.planned
    c.planned.invariant c.requires.room c.in-Liquidate.liquidator c.in-Liquidate.victims
    c.in-Liquidate.is c.as_slice.result.now c.as_slice.ensures

pub apply_liquidate-requires-clause-allowed : goal.apply_liquidate-requires-clause-allowed
apply_liquidate-requires-clause-allowed g c = (its_liquidation g c).allowed

pub apply_liquidate-requires-clause-done : goal.apply_liquidate-requires-clause-done
apply_liquidate-requires-clause-done g c = (its_liquidation g c).done_is

pub apply_liquidate-requires-clause-stays : goal.apply_liquidate-requires-clause-stays
apply_liquidate-requires-clause-stays g c = (its_liquidation g c).strike.stays

pub apply_liquidate-requires-clause-range : goal.apply_liquidate-requires-clause-range
apply_liquidate-requires-clause-range g c = (its_liquidation g c).strike.range

pub apply_liquidate-requires-clause-effect : goal.apply_liquidate-requires-clause-effect
apply_liquidate-requires-clause-effect g c = (its_liquidation g c).strike.effect_is

pub apply_liquidate-requires-clause-victims : goal.apply_liquidate-requires-clause-victims
apply_liquidate-requires-clause-victims g c = (its_liquidation g c).strike.victims

pub apply_liquidate-requires-clause-few : goal.apply_liquidate-requires-clause-few
apply_liquidate-requires-clause-few g c = (its_liquidation g c).strike.few

pub apply_liquidate-requires-clause-wallet : goal.apply_liquidate-requires-clause-wallet
apply_liquidate-requires-clause-wallet g c = (its_liquidation g c).wallet

pub apply_liquidate-requires-clause-owners : goal.apply_liquidate-requires-clause-owners
apply_liquidate-requires-clause-owners g c = (its_liquidation g c).owners

-- what is planned, where its call rotates
pub apply_rotate-requires-clause-rotates : goal.apply_rotate-requires-clause-rotates
apply_rotate-requires-clause-rotates g c =
    let sound = subst (λ (core : Core). IsSoundImage core.image core.records) c.self.view_is c.self.invariant.image in
    let inside = c.planned.inside in
    let plan = plan_inside c.args.self.now sound inside c.args.planned.now c.planned.view_is c.requires.planned in
    subst (IsEffect (state_of c.args.self.now) inside.command.call) c.in-Rotate.is plan.effect

pub apply_rotate-requires-clause-allowed : goal.apply_rotate-requires-clause-allowed
apply_rotate-requires-clause-allowed g c =
    let sound = subst (λ (core : Core). IsSoundImage core.image core.records) c.self.view_is c.self.invariant.image in
    let s = state_of c.args.self.now in
    let plan = c.requires.planned s (sound_stands c.args.self.now sound) in
    subst (λ (p : Plan). ruling s p.command ≡ Allowed) (sym c.planned.view_is) plan.allowed

pub apply_rotate-requires-clause-done : goal.apply_rotate-requires-clause-done
apply_rotate-requires-clause-done g c =
    let sound = subst (λ (core : Core). IsSoundImage core.image core.records) c.self.view_is c.self.invariant.image in
    let s = state_of c.args.self.now in
    let plan = c.requires.planned s (sound_stands c.args.self.now sound) in
    subst (λ (p : Plan). p.done ≡ done_of s p.command.call) (sym c.planned.view_is) plan.done

pub returns-clause-state : goal.returns-clause-state
returns-clause-state g c s h =
    let sound = subst (λ (core : Core). IsSoundImage core.image core.records) c.self.view_is c.self.invariant.image in
    let old = c.args.self.now in
    let command = c.args.planned.now.command in
    let plan = c.requires.planned s h in
    elim c.match-planned.branch [
      | in-Move w ↦
          let call = c.planned.inside.command.call in
          let made = made_inside old sound c.planned.inside c.args.planned.now c.planned.view_is c.requires.planned
          w.in-Move.moved w.in-Move.is in
          let changed = changed_stands old w.change.new.self call sound (w.change.ensures.made call made) s h in
          let noted_is :
          StandsFor w.note.new.self (noted (effect s call) c.planned.inside.command c.planned.inside.forecast.done) =
          w.note.ensures.state (effect s call) changed in
          let seen : StandsFor w.note.new.self (noted (effect s command.call) command c.args.planned.now.done) =
          subst (λ (p : Plan). StandsFor w.note.new.self (noted (effect s p.command.call) p.command p.done))
          c.planned.view_is noted_is in
          let done : StandsFor w.note.new.self (after s command) =
          subst (λ d. StandsFor w.note.new.self (noted (effect s command.call) command d)) plan.done seen in
          subst (λ (core : Core). StandsFor core (after_ruling s command (ruling s command)).0) (sym w.self-is)
          (subst (λ r. StandsFor w.note.new.self (after_ruling s command r).0) (sym plan.allowed) done)
      | in-Liquidate w ↦
          let its = subst (λ (p : Plan). StandsFor w.apply_liquidate.new.self (after (state_of old) p.command))
          c.planned.view_is w.apply_liquidate.ensures in
          let allowed = (c.requires.planned (state_of old) (sound_stands old sound)).allowed in
          subst (λ (core : Core). StandsFor core (after_ruling s command (ruling s command)).0) (sym w.self-is)
          (stepped_stands old w.apply_liquidate.new.self command sound allowed its s h)
      | in-Rotate w ↦
          let its = subst (λ (p : Plan). StandsFor w.apply_rotate.new.self (after (state_of old) p.command))
          c.planned.view_is w.apply_rotate.ensures.state in
          let allowed = (c.requires.planned (state_of old) (sound_stands old sound)).allowed in
          subst (λ (core : Core). StandsFor core (after_ruling s command (ruling s command)).0) (sym w.self-is)
          (stepped_stands old w.apply_rotate.new.self command sound allowed its s h)
    ]

pub returns-clause-list : goal.returns-clause-list
returns-clause-list g c s h = c.lists_stand.ensures (step s (Do c.args.planned.now.command)).0
    (returns-clause-state g c s h)

-- ---- the steps

-- what a planned move takes
planned_few : (old : Core) → IsSoundImage old.image old.records → (plan : Plan) → IsPlan (state_of old) plan
    → (moved : Move) → IsMove (state_of old) plan.command.call moved → (made now : List Ranked) → now ≡ made
    → now ≡ trove_order (effect (state_of old) plan.command.call) → (hint : Hint) (before after : ℕ)
    → TakesFew made (used_hint (words_in moved) hint) (entry_put moved made) before after
    → TakesFew now (used_hint (words_of plan.command.call) hint) (last_put plan.changes) before after
planned_few old sound plan is moved its made now same stands hint before after few =
    let call = plan.command.call in
    let used = used_hint (words_of call) hint in
    let worded = subst (λ (words : HintWords). TakesFew made (used_hint words hint) (entry_put moved made) before after)
    (sym (move_makes (state_of old) call moved its).words) few in
    let listed = subst (λ (l : List Ranked). TakesFew l used (entry_put moved l) before after) (sym same) worded in
    subst (λ (changes : List ListChange). TakesFew now used (last_put changes) before after) (sym is.changes)
    (planned_puts old sound call moved now used before after its stands listed)

-- the list after an allowed command is that after its effect
after_list : (s : State) (c : Command) → ruling s c ≡ Allowed → trove_order (step s (Do c)).0
    ≡ trove_order (effect s c.call)
after_list s c allowed = ap (λ (r : Ruling). trove_order (after_ruling s c r).0) allowed

pub returns-clause-few : goal.returns-clause-few
returns-clause-few g c =
    let old = c.args.self.now in
    let sound = subst (λ (core : Core). IsSoundImage core.image core.records) c.self.view_is c.self.invariant.image in
    let s = state_of old in
    let stands = sound_stands old sound in
    let plan = c.requires.planned s stands in
    let list = c.match-planned.self.list in
    let used = used_hint (words_of c.args.planned.now.command.call) c.args.hint.now in
    let made = c.lists_stand.ensures (step s (Do c.args.planned.now.command)).0 (returns-clause-state g c s stands)
    ∙ after_list s c.args.planned.now.command plan.allowed in
    elim c.match-planned.branch [
      | in-Move w ↦
          let same = ap (λ (core : Core). core.list) w.self-is ∙ w.note.ensures.list in
          let its = subst (λ (p : Plan). IsMove s p.command.call w.in-Move.moved) c.planned.view_is
          (made_inside old sound c.planned.inside c.args.planned.now c.planned.view_is c.requires.planned w.in-Move.moved
          w.in-Move.is) in
          subst (λ n. TakesFew list used (last_put c.args.planned.now.changes) c.args.steps.now n) (sym w.steps-is)
          (planned_few old sound c.args.planned.now plan w.in-Move.moved its w.change.new.self.list list same made
          c.args.hint.now c.args.steps.now w.change.new.steps w.change.ensures.few)
      | in-Liquidate w ↦ takes_same list used (last_put c.args.planned.now.changes) c.args.steps.now c.match-planned.steps
          w.steps-is
      | in-Rotate w ↦ takes_same list used (last_put c.args.planned.now.changes) c.args.steps.now c.match-planned.steps
          w.steps-is
    ]
