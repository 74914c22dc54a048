-- What the plans of depositors are told, and that they are what the step has.
use Rattle.std.proofs.Common.{◌≡◌, ℕ, ◌+◌, ◌≤◌, ◌<◌, Bool, true, false, cond, [], ◌∷◌, refl, ap, sym, ◌∙◌, arith, nat_lt, Some, None, Option, Bor}
use Rattle.std.specs.Prelude.{Result, Ok, Err, is_some, is_none, not, option_copied}
use Rattle.std.proofs.lemmas.Bool.Decides.{nat_tests}
use Rattle.liq_types.specs.declared.amounts.TheConstants.{LIM, MCR}
use Rattle.liq_types.specs.declared.events.ListChange.{ListChange}
use Rattle.liq_types.specs.declared.events.PoolEvent.TheVariants.{Own}
use Rattle.liq_types.specs.declared.figures.Deposit.{Deposit}
use Rattle.liq_types.specs.declared.figures.Market.{Market}
use Rattle.liq_types.specs.declared.figures.Trove.{Trove}
use Rattle.liq_types.specs.declared.hints.HintWords.{HintWords}
use Rattle.liq_types.specs.declared.replies.Refusal.{Refusal}
use Rattle.liq_types.specs.declared.replies.Refusal.TheVariants.{NoDeposit, TroveUnder}
use Rattle.liq_types.specs.declared.requests.Call.TheVariants.{GainToTrove}
use Rattle.liq_types.specs.Rules.{first_refusal, outcome}
use Rattle.liq_types.specs.State.{State, wallet_of}
use Rattle.liq_types.specs.Tables.{Table, at}
use Rattle.liq_types.specs.Totals.{market_of, or_nothing, worth, asked, pool_coll}
use Rattle.liq_ledger.specs.Refusals.{ruled}
use Rattle.liq_troves.specs.StakeSums.{entire_of}
use Rattle.liq_order.specs.Order.{order_by, last_trove, last_account}
use Rattle.liq_stability.specs.Own.{owned, amount_after}
use Rattle.liq_stability.specs.Position.{balance_of, gain_of}
use Rattle.liq_borrow.specs.declared.change.Plan.{Plan}
use Rattle.liq_borrow.specs.Borrowing.{gain_plan, gaining_terms, gain_rules}
use Rattle.liq_core.specs.declared.engine.Protocol.TheInside.{Inside}
use Rattle.liq_core.specs.declared.told.ListChanges.TheVariants as changes
use Rattle.liq_core.specs.declared.told.PoolEvents.TheVariants as events
use Rattle.liq_core.specs.declared.effects.Effect.TheVariants as effects
use Rattle.liq_core.specs.declared.effects.Move.TheVariants as moves
use Rattle.liq_core.specs.declared.kinds.TheConstants.{GAIN_TO_TROVE}
use Rattle.liq_core.specs.Core.{state_of}
use Rattle.liq_core.specs.Plan.{IsForecast}
use Rattle.liq_rule_step.specs.Pool.{trove_under}
use Rattle.liq_rule_step.specs.Rules.{rules}
use Rattle.liq_core.specs.Sound.{IsSound, core_of}
use Rattle.liq_stability.proofs.Pool.{balance_within, gain_within}
use Rattle.liq_core.proofs.Forecasting.{put_for}
use Rattle.liq_core.proofs.Lending.{rows_are}
use Rattle.liq_core.proofs.Reading.{set_told}
use Rattle.liq_rule_sound.proofs.SoundBorrow.{has_trove}
use Rattle.liq_rule_sound.proofs.SoundCalls.{pool_and_wallet}
use Rattle.liq_rule_sound.proofs.SoundFacts.{Finds}

-- ---- what is read

pub no_deposit_by : (o : Option (Bor Deposit)) (b : Bool) → is_some o ≡ not b → b ≡ is_none (option_copied o)
no_deposit_by None true h = refl
no_deposit_by None false h = cc
no_deposit_by (Some d) true h = cc
no_deposit_by (Some d) false h = refl

-- what a depositor has in the pool is within the limit, with the wallet's LUSD and with the trove's collateral
pub position_within : (s : State) → Finds s → (account : ℕ) → (balance_of s account + (wallet_of s account).lusd ≤ LIM)
    × ((or_nothing (entire_of s account)).0 + gain_of s account ≤ LIM)
position_within s f account =
    let fits = pool_and_wallet s f account (wallet_of s account).lusd (omega arith) in
    let balance = balance_within s (at s.deposits account) in
    let gain = gain_within s (at s.deposits account) in
    (omega (arith, fits, balance), by (entire_of s account) refl gain)
  where
    by : (o : Option (ℕ × ℕ)) → entire_of s account ≡ o → gain_of s account ≤ pool_coll s
        → (or_nothing o).0 + gain_of s account ≤ LIM
    by None e gain =
        let homes = f.balanced.homes.coll in
        let limit = f.balanced.coll_limit in
        omega (arith, homes, limit, gain)
    by (Some own) e gain =
        let homes = f.balanced.homes.coll in
        let limit = f.balanced.coll_limit in
        let has = has_trove s account own f.stands e in
        let w = has.within in
        omega (arith, homes, limit, gain, has.coll_is, w.coll, w.pending_coll)

pub last_is : (p : Inside) → IsSound p → last_trove (state_of (core_of p)) ≡ last_account p.order.entries
last_is p sound = ap (λ (t : Table Trove). last_account (order_by t)) (rows_are p sound)
    ∙ ap last_account (sym sound.order)

-- ---- the last trove

abbrev told_of : Option Refusal → Result (Unit {0}) Refusal
told_of o = outcome o tt

module _ (s : State) (account left right : ℕ) (left_is : left ≡ worth (or_nothing (entire_of s account)).0 s.price)
    (right_is : right ≡ asked MCR (or_nothing (entire_of s account)).1) where
  under_as : (b : Bool) → nat_lt left right ≡ b → ruled (trove_under s (Some account))
      ≡ told_of (cond b (Some (TroveUnder account left right)) None)
  under_as b e =
      ap (λ n. ruled ((
        nat_lt n (asked MCR (or_nothing (entire_of s account)).1),
        TroveUnder account n (asked MCR (or_nothing (entire_of s account)).1),
      ) ∷ [])) (sym left_is)
      ∙ ap (λ n. ruled ((nat_lt left n, TroveUnder account left n) ∷ [])) (sym right_is)
      ∙ ap (λ c. told_of (cond c (Some (TroveUnder account left right)) None)) e

  pub is_under : left < right → Err (TroveUnder account left right) ≡ ruled (trove_under s (Some account))
  is_under less = sym (under_as true (grind (arith, nat_tests, less)))

  pub not_under : right ≤ left → Ok tt ≡ ruled (trove_under s (Some account))
  not_under no_less = sym (under_as false (grind (arith, nat_tests, no_less)))

-- ---- a gain that moves into the trove

module _ (s : State) (account : ℕ) (hint : HintWords) where
  gain_as : (b : Bool) → is_none (at s.deposits account) ≡ b → first_refusal (rules s (GainToTrove account hint))
      ≡ cond b (Some (NoDeposit account)) (first_refusal (gain_rules (market_of s) (entire_of s account) account
      (gain_of s account)))
  gain_as b e =
      ap (λ c. cond c (Some (NoDeposit account)) (first_refusal (gain_rules (market_of s) (entire_of s account) account
      (gain_of s account)))) e

  module _ (there : is_none (at s.deposits account) ≡ false) (m : Market) (entire : Option (ℕ × ℕ)) (gain : ℕ)
      (market_is : m ≡ market_of s) (entire_is : entire ≡ entire_of s account) (gain_is : gain
      ≡ gain_of s account) where
    planned_as : gain_plan m entire account gain ≡ gain_plan (market_of s) (entire_of s account) account
        (gain_of s account)
    planned_as =
        ap (λ (x : Market). gain_plan x entire account gain) market_is
        ∙ ap (λ (o : Option (ℕ × ℕ)). gain_plan (market_of s) o account gain) entire_is
        ∙ ap (gain_plan (market_of s) (entire_of s account) account) gain_is

    planned_by : (o : Option Refusal) (terms plan : Plan) → outcome o terms ≡ Ok plan → (o ≡ None) × (plan ≡ terms)
    planned_by None terms plan h = (refl, cc)
    planned_by (Some r) terms plan h = cc

    pub gain_passed : (plan : Plan) → gain_plan m entire account gain ≡ Ok plan
        → first_refusal (rules s (GainToTrove account hint)) ≡ None
    gain_passed plan e = gain_as false there ∙ (planned_by _ _ plan (sym planned_as ∙ e)).0

    pub gain_terms : (plan : Plan) → gain_plan m entire account gain ≡ Ok plan
        → plan ≡ gaining_terms (market_of s) (or_nothing (entire_of s account)) (gain_of s account)
    gain_terms plan e = (planned_by _ _ plan (sym planned_as ∙ e)).1

  pub gain_forecast : (balance gain : ℕ) (plan : Plan) (change : ListChange) → balance ≡ balance_of s account
      → gain ≡ gain_of s account → plan ≡ gaining_terms (market_of s) (or_nothing (entire_of s account))
      (gain_of s account) → change ≡ put_for s account plan
      → IsForecast s (GainToTrove account hint) (record {
        done = record {
          kind = GAIN_TO_TROVE;
          values = gain ∷ plan.coll ∷ 0 ∷ 0
              ∷ 0 ∷ 0 ∷ [];
        };
        effect = effects.Move (moves.GainToTrove account plan hint);
        events = events.One (Own account 0 0 gain balance ∷ []);
        changes = changes.One (change ∷ []);
      })
  gain_forecast balance gain plan change balance_is gain_is is put_is =
      let planned = gaining_terms (market_of s) (or_nothing (entire_of s account)) (gain_of s account) in
      let left : balance ≡ amount_after s account 0 0 = omega (arith, balance_is) in
      record {
        done =
            ap (λ n. record { kind = GAIN_TO_TROVE; values = n ∷ plan.coll ∷ 0 ∷ 0 ∷ 0 ∷ 0 ∷ [] }) gain_is
            ∙ ap (λ (x : Plan). record {
              kind = GAIN_TO_TROVE;
              values = gain_of s account ∷ x.coll ∷ 0 ∷ 0 ∷ 0 ∷ 0 ∷ [];
            }) is;
        effect = (refl, is);
        events =
            ap (λ n. Own account 0 0 n balance ∷ []) gain_is
            ∙ ap (λ n. Own account 0 0 (gain_of s account) n ∷ []) left;
        changes = ap (λ (c : ListChange). c ∷ []) (put_is ∙ ap (put_for s account) is
            ∙ set_told (owned s account 0 0) account planned.coll planned.debt);
      }
