-- What is planned of opening, adjusting and closing is what the step has.
use Rattle.std.proofs.Common.{◌≡◌, ℕ, ◌+◌, Bool, List, [], ◌∷◌, refl, ap, sym, ◌∙◌, None, Option}
use Rattle.std.specs.Prelude.{Ok, Err, is_some}
use Rattle.liq_types.specs.declared.amounts.TheConstants.{RESERVE}
use Rattle.liq_types.specs.declared.events.ListChange.{ListChange}
use Rattle.liq_types.specs.declared.events.ListChange.TheVariants.{Put}
use Rattle.liq_types.specs.declared.figures.Market.{Market}
use Rattle.liq_types.specs.declared.figures.Wallet.{Wallet}
use Rattle.liq_types.specs.declared.hints.HintWords.{HintWords}
use Rattle.liq_types.specs.declared.replies.Refusal.{Refusal}
use Rattle.liq_types.specs.declared.requests.Call.TheVariants.{Open, Adjust}
use Rattle.liq_types.specs.Payments.{credited, charged}
use Rattle.liq_types.specs.Rules.{first_refusal}
use Rattle.liq_types.specs.State.{State, wallet_of}
use Rattle.liq_types.specs.Tables.{at}
use Rattle.liq_types.specs.Totals.{market_of, or_nothing}
use Rattle.liq_troves.specs.Rows.{key_by, set_row}
use Rattle.liq_troves.specs.StakeSums.{entire_of, sums_words}
use Rattle.liq_borrow.specs.declared.change.Change.{Change}
use Rattle.liq_borrow.specs.declared.change.Plan.{Plan}
use Rattle.liq_borrow.specs.Borrowing.{open_plan, adjust_plan, opening_terms, adjusting_terms}
use Rattle.liq_core.specs.declared.effects.Effect.TheVariants as effects
use Rattle.liq_core.specs.declared.effects.Move.{Move}
use Rattle.liq_core.specs.declared.effects.Move.TheVariants as moves
use Rattle.liq_core.specs.declared.kinds.TheConstants.{OPEN, ADJUST}
use Rattle.liq_core.specs.declared.told.ListChanges.TheVariants as changes
use Rattle.liq_core.specs.declared.told.PoolEvents.TheVariants as events
use Rattle.liq_core.specs.declared.turns.Forecast.{Forecast}
use Rattle.liq_rule_step.specs.Borrowing.{with_fee}
use Rattle.liq_core.specs.Plan.{IsForecast}
use Rattle.liq_rule_step.specs.Rules.{rules}
use Rattle.liq_core.specs.Turn.{IsRuled}
use Rattle.liq_core.proofs.Reading.{refused_so, allowed_so, placed_told, set_told}

-- where a trove that is planned will stand
abbrev pub put_for : State → ℕ → Plan → ListChange
put_for s account plan = Put (key_by (set_row (sums_words s) plan.coll plan.debt)) account

module _ (s : State) (account : ℕ) (m : Market) (w : Wallet) (market_is : m ≡ market_of s) (wallet_is : w
    ≡ wallet_of s account) where
  module _ (coll borrow bound : ℕ) (hint : HintWords) (exists : Bool) (exists_is : exists
      ≡ is_some (at s.troves account)) where
    open_as : open_plan m w exists account coll borrow bound ≡ open_plan (market_of s) (wallet_of s account)
        (is_some (at s.troves account)) account coll borrow bound
    open_as =
        ap (λ (x : Market). open_plan x w exists account coll borrow bound) market_is
        ∙ ap (λ (x : Wallet). open_plan (market_of s) x exists account coll borrow bound) wallet_is
        ∙ ap (λ b. open_plan (market_of s) (wallet_of s account) b account coll borrow bound) exists_is

    pub open_refused : (refusal : Refusal) → open_plan m w exists account coll borrow bound ≡ Err refusal
        → IsRuled s (Open account coll borrow bound hint) (Err refusal)
    open_refused refusal e =
        refused_so (rules s (Open account coll borrow bound hint)) (opening_terms (market_of s) coll borrow) refusal
        (sym open_as ∙ e)

    pub open_allowed : (plan : Plan) → open_plan m w exists account coll borrow bound ≡ Ok plan
        → (first_refusal (rules s (Open account coll borrow bound hint)) ≡ None)
        × (plan ≡ (opening_terms (market_of s) coll borrow))
    open_allowed plan e = allowed_so (rules s (Open account coll borrow bound hint))
        (opening_terms (market_of s) coll borrow) plan (sym open_as ∙ e)

  module _ (change : Change) (bound : ℕ) (hint : HintWords) (entire : Option (ℕ × ℕ)) (entire_is : entire
      ≡ entire_of s account) where
    adjust_as : adjust_plan m w entire account change bound ≡ adjust_plan (market_of s) (wallet_of s account)
        (entire_of s account) account change bound
    adjust_as =
        ap (λ (x : Market). adjust_plan x w entire account change bound) market_is
        ∙ ap (λ (x : Wallet). adjust_plan (market_of s) x entire account change bound) wallet_is
        ∙ ap (λ (o : Option (ℕ × ℕ)). adjust_plan (market_of s) (wallet_of s account) o account change bound) entire_is

    pub adjust_refused : (refusal : Refusal) → adjust_plan m w entire account change bound ≡ Err refusal
        → IsRuled s (Adjust account change.coll_in change.coll_out change.borrow change.repay bound hint) (Err refusal)
    adjust_refused refusal e =
        refused_so (rules s (Adjust account change.coll_in change.coll_out change.borrow change.repay bound hint))
        (adjusting_terms (market_of s) (or_nothing (entire_of s account)) change) refusal (sym adjust_as ∙ e)

    pub adjust_allowed : (plan : Plan) → adjust_plan m w entire account change bound ≡ Ok plan
        → (first_refusal (rules s (Adjust account change.coll_in change.coll_out change.borrow change.repay bound hint))
        ≡ None) × (plan ≡ (adjusting_terms (market_of s) (or_nothing (entire_of s account)) change))
    adjust_allowed plan e =
        allowed_so (rules s (Adjust account change.coll_in change.coll_out change.borrow change.repay bound hint))
        (adjusting_terms (market_of s) (or_nothing (entire_of s account)) change) plan (sym adjust_as ∙ e)

-- ---- what is planned

-- of a trove that the plan changes
abbrev pub trove_forecast : ℕ → List ℕ → Move → ListChange → Forecast
trove_forecast kind values moved change =
    record {
      done = record { kind = kind; values = values };
      effect = effects.Move moved;
      events = events.Nothing;
      changes = changes.One (change ∷ []);
    }

pub open_forecast : (s : State) (account coll borrow bound : ℕ) (words : HintWords) (plan : Plan) (change : ListChange)
    → plan ≡ opening_terms (market_of s) coll borrow → change ≡ put_for s account plan
    → IsForecast s (Open account coll borrow bound words) (trove_forecast OPEN (plan.debt ∷ plan.fee ∷ 0 ∷ 0 ∷ 0 ∷ 0
    ∷ []) (moves.Open account borrow plan words) change)
open_forecast s account coll borrow bound words plan change is put_is =
    let planned = opening_terms (market_of s) coll borrow in
    let lent = credited (charged (with_fee s planned) account coll 0) account 0 borrow in
    let coll_is : coll ≡ plan.coll = sym (ap (λ (p : Plan). p.coll) is) in
    record {
      done = ap (λ (p : Plan). record { kind = OPEN; values = p.debt ∷ p.fee ∷ 0 ∷ 0 ∷ 0 ∷ 0 ∷ [] }) is;
      effect = (
        bound,
        ap (λ n. Open account n borrow bound words) coll_is,
        is ∙ ap (λ n. opening_terms (market_of s) n borrow) coll_is,
      );
      events = refl;
      changes =
          ap (λ (c : ListChange). c ∷ [])
          (put_is ∙ ap (put_for s account) is ∙ placed_told (record lent { reserve = lent.reserve + RESERVE }) account
          coll planned.debt);
    }

pub adjust_forecast : (s : State) (account : ℕ) (change : Change) (bound : ℕ) (words : HintWords) (plan : Plan)
    (moved : ListChange) → plan ≡ adjusting_terms (market_of s) (or_nothing (entire_of s account)) change
    → moved ≡ put_for s account plan
    → IsForecast s (Adjust account change.coll_in change.coll_out change.borrow change.repay bound words)
    (trove_forecast ADJUST (plan.coll ∷ plan.debt ∷ plan.fee ∷ 0 ∷ 0 ∷ 0 ∷ []) (moves.Adjust account change plan words)
    moved)
adjust_forecast s account change bound words plan moved is put_is =
    let planned = adjusting_terms (market_of s) (or_nothing (entire_of s account)) change in
    let paid = credited (charged (with_fee s planned) account change.coll_in change.repay) account change.coll_out
    change.borrow in
    record {
      done = ap (λ (p : Plan). record { kind = ADJUST; values = p.coll ∷ p.debt ∷ p.fee ∷ 0 ∷ 0 ∷ 0 ∷ [] }) is;
      effect = (bound, refl, is);
      events = refl;
      changes = ap (λ (c : ListChange). c ∷ []) (put_is ∙ ap (put_for s account) is
          ∙ set_told paid account planned.coll planned.debt);
    }
