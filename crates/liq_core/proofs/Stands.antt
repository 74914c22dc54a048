-- The states for which a core stands: what is ruled, planned and done for one of them is so for each.
use Rattle.std.proofs.Common.{◌≡◌, ℕ, List, subst, Option, ap, sym, ◌∙◌, inl, inr}
use Rattle.std.specs.Prelude.{Result}
use Rattle.liq_types.specs.declared.replies.Refusal.{Refusal}
use Rattle.liq_types.specs.declared.figures.Market.{Market}
use Rattle.liq_types.specs.declared.requests.Call.{Call}
use Rattle.liq_types.specs.declared.requests.Command.{Command}
use Rattle.liq_types.specs.declared.requests.Request.TheVariants.{Do}
use Rattle.liq_rule_step.specs.Step.{Ruling, after, after_ruling, step}
use Rattle.liq_types.specs.State.{State}
use Rattle.liq_types.specs.Totals.{market_of, or_nothing}
use Rattle.liq_troves.specs.StakeSums.{entire_of}
use Rattle.liq_stability.specs.Position.{gain_of}
use Rattle.liq_borrow.specs.Borrowing.{opening_terms, adjusting_terms, closing_terms, gaining_terms}
use Rattle.liq_types.specs.Soundness.{IsSoundImage}
use Rattle.liq_liquidation.specs.declared.one.One.{One}
use Rattle.liq_liquidation.specs.declared.one.Victim.{Victim}
use Rattle.liq_liquidation.specs.Lowest.{victim_by}
use Rattle.liq_core.specs.Core.{Core, Changes, StandsFor, state_of}
use Rattle.liq_rule_step.specs.Liquidation.{listed}
use Rattle.liq_rule_step.specs.Step.{Allowed, ruling, effect}
use Rattle.liq_core.specs.declared.effects.Effect.{Effect}
use Rattle.liq_core.specs.declared.effects.Effect.TheVariants as effects
use Rattle.liq_core.specs.declared.effects.Move.{Move}
use Rattle.liq_core.specs.declared.effects.Move.TheVariants as moves
use Rattle.liq_core.specs.declared.turns.Forecast.{Forecast}
use Rattle.liq_core.specs.Effects.{IsEffect, IsMove, IsStruck, victims_in}
use Rattle.liq_core.specs.Plan.{IsForecast, IsPlan, plan_of}
use Rattle.liq_rule_step.proofs.AlikeFollowed.{call_events_alike, call_changes_alike}
use Rattle.liq_rule_step.proofs.AlikeLiquidation.{one_alike, lowest_alike}
use Rattle.liq_rule_step.proofs.AlikeRedemption.{terms_alike as redeeming_alike}
use Rattle.liq_rule_step.proofs.AlikeReads.{Alike, market_alike, entire_alike, gain_alike}
use Rattle.liq_rule_step.proofs.AlikeReplies.{ruling_alike, step_alike}
use Rattle.liq_rule_step.proofs.AlikeStep.{effect_alike, done_alike}
use Rattle.liq_rule_step.proofs.Allowed.{effect-records}
use Rattle.liq_core.proofs.SoundCores.{sound_stands}

-- a state for which a core stands is the same as the one that begins with the core's image
pub standing_alike : (core : Core) (s : State) → IsSoundImage core.image core.records → StandsFor core s
    → Alike s (state_of core)
standing_alike core s sound h =
    let itself = sound_stands core sound in
    record {
      image = sym h.image ∙ itself.image;
      records = sym h.records ∙ itself.records;
      left = h.formed;
      right = itself.formed;
    }

pub standing_ruling : (core : Core) (s : State) (c : Command) → IsSoundImage core.image core.records → StandsFor core s
    → ruling s c ≡ ruling (state_of core) c
standing_ruling core s c sound h = ruling_alike (standing_alike core s sound h) c

-- a core that stands for a state stands for what the call makes of it, once it is changed
pub changed_stands : (old new : Core) (call : Call) → IsSoundImage old.image old.records → Changes old call new
    → (s : State) → StandsFor old s → StandsFor new (effect s call)
changed_stands old new call sound made s h =
    let e = effect_alike (standing_alike old s sound h) call in
    record {
      image = made.image ∙ sym e.image;
      records = made.records ∙ h.records ∙ sym (effect-records s call);
      formed = e.left;
    }

-- and once the whole command is made, for the step
pub stepped_stands : (old new : Core) (c : Command) → IsSoundImage old.image old.records
    → ruling (state_of old) c ≡ Allowed → StandsFor new (after (state_of old) c) → (s : State) → StandsFor old s
    → StandsFor new (step s (Do c)).0
stepped_stands old new c sound allowed made s h =
    let its = subst (λ (r : Ruling). StandsFor new (after_ruling (state_of old) c r).0) (sym allowed) made in
    let e = step_alike (standing_alike old s sound h) (Do c) in
    record { image = its.image ∙ sym e.image; records = its.records ∙ sym e.records; formed = e.left }

-- what is planned for one state holds for each that is the same
move_alike : {s t : State} → Alike s t → (call : Call) (moved : Move) → IsMove t call moved → IsMove s call moved
move_alike {s} {t} h call (moves.Open account borrow plan words) is = (
  is.0,
  is.1,
  is.2 ∙ ap (λ (m : Market). opening_terms m plan.coll borrow) (sym (market_alike h)),
)
move_alike {s} {t} h call (moves.Adjust account change plan words) is = (
  is.0,
  is.1,
  is.2 ∙ ap (λ (m : Market). adjusting_terms m (or_nothing (entire_of t account)) change) (sym (market_alike h))
      ∙ ap (λ (o : Option (ℕ × ℕ)). adjusting_terms (market_of s) (or_nothing o) change) (sym (entire_alike h account)),
)
move_alike {s} {t} h call (moves.Close account repaid coll) is = (
  is.0,
  is.1 ∙ ap (λ (o : Option (ℕ × ℕ)). closing_terms (or_nothing o)) (sym (entire_alike h account)),
)
move_alike {s} {t} h call (moves.GainToTrove account plan words) is = (
  is.0,
  is.1 ∙ ap (λ (m : Market). gaining_terms m (or_nothing (entire_of t account)) (gain_of t account))
      (sym (market_alike h))
      ∙ ap (λ (o : Option (ℕ × ℕ)). gaining_terms (market_of s) (or_nothing o) (gain_of t account))
      (sym (entire_alike h account))
      ∙ ap (gaining_terms (market_of s) (or_nothing (entire_of s account))) (sym (gain_alike h account)),
)
move_alike {s} {t} h call (moves.Redeem account plan words) is = (
  is.0,
  is.1,
  is.2,
  is.3 ∙ sym (redeeming_alike h is.0),
)
move_alike h call _ is = is

struck_alike : {s t : State} → Alike s t → (call : Call) (liquidator : ℕ) (struck : List Victim)
    → IsStruck t call liquidator struck → IsStruck s call liquidator struck
struck_alike h call liquidator struck (inl is) = inl (
  is.0,
  is.1,
  is.2 ∙ sym (ap (λ (made : Result One Refusal). listed (victim_by is.0 made)) (one_alike h is.0)),
)
struck_alike h call liquidator struck (inr is) = inr (is.0, is.1, is.2 ∙ sym (lowest_alike is.0 h))

effect_same : {s t : State} → Alike s t → (call : Call) (planned : Effect) → IsEffect t call planned
    → IsEffect s call planned
effect_same h call (effects.Move moved) is = move_alike h call moved is
effect_same h call (effects.Liquidate liquidator struck) is = struck_alike h call liquidator (victims_in struck) is
effect_same h call effects.Rotate is = is

pub planned_alike : {s t : State} → Alike s t → (c : Command) (forecast : Forecast) → ruling s c ≡ Allowed
    → IsForecast t c.call forecast → IsPlan s (plan_of c forecast)
planned_alike h c forecast allowed f =
    record {
      allowed = allowed;
      done = f.done ∙ sym (done_alike h c.call);
      effect = effect_same h c.call forecast.effect f.effect;
      events = f.events ∙ sym (call_events_alike h c.call);
      changes = f.changes ∙ sym (call_changes_alike h c.call);
    }
