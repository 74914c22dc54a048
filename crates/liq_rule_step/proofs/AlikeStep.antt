-- States with the same image and records: every request has the same reply and leaves the same image and records.
use Rattle.std.proofs.Common.{◌≡◌, ℕ, ◌+◌, ◌-◌, ◌≤◌, List, [], ◌∷◌, refl, ap, sym, ◌∙◌, subst, arith}
use Rattle.std.specs.Prelude.{unwrap_or, min, Result}
use Rattle.liq_types.specs.declared.amounts.TheConstants.{LIM, RESERVE}
use Rattle.liq_types.specs.declared.figures.Market.{Market}
use Rattle.liq_types.specs.declared.replies.Refusal.{Refusal}
use Rattle.liq_types.specs.declared.requests.Call.{Call}
use Rattle.liq_types.specs.declared.requests.Call.TheVariants.{Price, Advance, Fund, Take, Send, Open, Adjust, Close, Provide, Withdraw, GainToTrove, Liquidate, LiquidateLowest, Redeem, Claim, Rotate}
use Rattle.liq_types.specs.declared.image.Image.{Image}
use Rattle.liq_types.specs.Payments.{credited}
use Rattle.liq_types.specs.State.{State, with_wallet, no_wallet}
use Rattle.liq_types.specs.Tables.{at}
use Rattle.liq_types.specs.Totals.{market_of}
use Rattle.liq_troves.specs.StakeSums.{entire_of}
use Rattle.liq_troves.specs.Own.{set_trove}
use Rattle.liq_stability.specs.Own.{owned, amount_after}
use Rattle.liq_stability.specs.Position.{balance_of, gain_of}
use Rattle.liq_borrow.specs.declared.change.Change.{Change}
use Rattle.liq_borrow.specs.declared.change.Plan.{Plan}
use Rattle.liq_borrow.specs.Borrowing.{or_nothing, opening_terms, adjusting_terms}
use Rattle.liq_liquidation.specs.declared.one.One.{One}
use Rattle.liq_liquidation.specs.declared.one.Victim.{Victim}
use Rattle.liq_liquidation.specs.One.{one}
use Rattle.liq_liquidation.specs.Lowest.{lowest, victim_by}
use Rattle.liq_redemption.specs.Redemption.{RedeemTerms}
use Rattle.liq_rule_step.specs.Borrowing.{with_fee, opened, adjusted, closed}
use Rattle.liq_rule_step.specs.Liquidation.{listed, all_liquidated, one_values, lowest_values}
use Rattle.liq_rule_step.specs.Rules.{effect, values, six, done_of}
use Rattle.liq_rule_step.specs.Verbs.{kind}
use Rattle.liq_rule_step.proofs.AlikeReads.{Alike, surplus_alike, market_alike, entire_alike, balance_alike, gain_alike, amount_alike}
use Rattle.liq_rule_step.proofs.AlikeChanges.{alike_by, alike_by_two, paid_alike, charged_alike, surplus_taken_alike, lifted_alike, placed_alike, set_alike, owned_alike}
use Rattle.liq_rule_step.proofs.AlikeLiquidation.{one_alike, lowest_alike, all_liquidated_alike, single_serves, lowest_serves, without_reserve_alike}
use Rattle.liq_rule_step.proofs.AlikeRedemption.{redeemed_alike, terms_alike}

-- ---- troves of their owners

own_alike : {s t : State} → Alike s t → (account : ℕ) → or_nothing (entire_of s account)
    ≡ or_nothing (entire_of t account)
own_alike h account = ap or_nothing (entire_alike h account)

abbrev set_fee : Plan → ℕ → Image → Image
set_fee plan fee i = record i { base = plan.rate.base; fee_minute = plan.rate.minute; fee_lusd = fee }

with_fee_alike : {s t : State} → Alike s t → (plan : Plan) → Alike (with_fee s plan) (with_fee t plan)
with_fee_alike {s} {t} h plan =
    alike_by_two (set_fee plan) (s.fee_lusd + plan.fee) (t.fee_lusd + plan.fee) s t (with_fee s plan) (with_fee t plan)
    (ap (λ (i : Image). i.fee_lusd + plan.fee) h.image) h refl refl refl refl h.left h.right

with_reserve_alike : {s t : State} → Alike s t
    → Alike (record s { reserve = s.reserve + RESERVE }) (record t { reserve = t.reserve + RESERVE })
with_reserve_alike {s} {t} h =
    alike_by (λ i. record i { reserve = i.reserve + RESERVE }) s t (record s { reserve = s.reserve + RESERVE })
    (record t { reserve = t.reserve + RESERVE }) h refl refl refl refl h.left h.right

opening_alike : {s t : State} → Alike s t → (coll borrow : ℕ) → opening_terms (market_of s) coll borrow
    ≡ opening_terms (market_of t) coll borrow
opening_alike h coll borrow = ap (λ (m : Market). opening_terms m coll borrow) (market_alike h)

opened_alike : {s t : State} → Alike s t → (account borrow : ℕ) (plan : Plan)
    → Alike (opened s account borrow plan) (opened t account borrow plan)
opened_alike h account borrow plan =
    placed_alike
    (with_reserve_alike (paid_alike (charged_alike (with_fee_alike h plan) account plan.coll plan.coll 0 0 refl refl)
    account 0 0 borrow borrow refl refl))
    account plan.coll plan.coll plan.debt plan.debt refl refl

open_alike : {s t : State} → Alike s t → (account coll borrow : ℕ)
    → Alike (opened s account borrow (opening_terms (market_of s) coll borrow)) (opened t account borrow
    (opening_terms (market_of t) coll borrow))
open_alike {s} {t} h account coll borrow =
    subst (λ (plan : Plan). Alike (opened s account borrow (opening_terms (market_of s) coll borrow))
    (opened t account borrow plan)) (opening_alike h coll borrow)
    (opened_alike h account borrow (opening_terms (market_of s) coll borrow))

-- the terms of a change in a state
abbrev adjusting_in : State → ℕ → Change → Plan
adjusting_in s account change = adjusting_terms (market_of s) (or_nothing (entire_of s account)) change

adjusting_alike : {s t : State} → Alike s t → (account : ℕ) (change : Change) → adjusting_in s account change
    ≡ adjusting_in t account change
adjusting_alike {s} {t} h account change =
    ap (λ (m : Market). adjusting_terms m (or_nothing (entire_of s account)) change) (market_alike h)
    ∙ ap (λ (own : ℕ × ℕ). adjusting_terms (market_of t) own change) (own_alike h account)

adjusted_alike : {s t : State} → Alike s t → (account : ℕ) (change : Change) (plan : Plan)
    → Alike (adjusted s account change plan) (adjusted t account change plan)
adjusted_alike h account change plan =
    set_alike
    (paid_alike (charged_alike (with_fee_alike h plan) account change.coll_in change.coll_in change.repay change.repay
    refl refl) account change.coll_out change.coll_out change.borrow change.borrow refl refl)
    account plan.coll plan.coll plan.debt plan.debt refl refl

adjust_alike : {s t : State} → Alike s t → (account : ℕ) (change : Change)
    → Alike (adjusted s account change (adjusting_in s account change)) (adjusted t account change
    (adjusting_in t account change))
adjust_alike {s} {t} h account change =
    subst (λ (plan : Plan). Alike (adjusted s account change (adjusting_in s account change))
    (adjusted t account change plan)) (adjusting_alike h account change)
    (adjusted_alike h account change (adjusting_in s account change))

repaid_alike : {s t : State} → Alike s t → (account : ℕ) → (or_nothing (entire_of s account)).1 - RESERVE
    ≡ (or_nothing (entire_of t account)).1 - RESERVE
repaid_alike h account = ap (λ (own : ℕ × ℕ). own.1 - RESERVE) (own_alike h account)

closed_alike : {s t : State} → Alike s t → (account m n c d : ℕ) → m ≡ n → c ≡ d
    → Alike (closed s account m c) (closed t account n d)
closed_alike h account m n c d repaid coll =
    lifted_alike (without_reserve_alike (paid_alike (charged_alike h account 0 0 m n refl repaid) account c d 0 0 coll
    refl)) account

-- ---- the Stability Pool

provide_alike : {s t : State} → Alike s t → (account lusd : ℕ)
    → Alike (effect s (Provide account lusd)) (effect t (Provide account lusd))
provide_alike h account lusd =
    paid_alike (charged_alike (owned_alike h account lusd 0 (omega arith) (omega arith)) account 0 0 lusd lusd refl
    refl) account _ _ 0 0 (gain_alike h account) refl

-- what is paid out of a balance
abbrev out_of : State → ℕ → ℕ → ℕ
out_of s account lusd = min lusd (balance_of s account)

out_alike : {s t : State} → Alike s t → (account lusd : ℕ) → out_of s account lusd ≡ out_of t account lusd
out_alike h account lusd = ap (λ n. min lusd n) (balance_alike h account)

withdrawn_by : State → ℕ → ℕ → State
withdrawn_by s account out = credited (owned s account 0 out) account (gain_of s account) out

withdrawn_by_alike : {s t : State} → Alike s t → (account out : ℕ) → out ≤ balance_of s account
    → out ≤ balance_of t account → Alike (withdrawn_by s account out) (withdrawn_by t account out)
unfolding withdrawn_by
withdrawn_by_alike h account out ws wt = paid_alike (owned_alike h account 0 out ws wt) account _ _ out out
    (gain_alike h account) refl

withdraw_alike : {s t : State} → Alike s t → (account lusd : ℕ)
    → Alike (effect s (Withdraw account lusd)) (effect t (Withdraw account lusd))
unfolding withdrawn_by
withdraw_alike {s} {t} h account lusd =
    subst (λ n. Alike (withdrawn_by s account (out_of s account lusd)) (withdrawn_by t account n))
    (out_alike h account lusd)
    (withdrawn_by_alike h account (out_of s account lusd) (omega arith) (subst (λ n. n ≤ balance_of t account)
    (sym (out_alike h account lusd)) (omega arith)))

moved_coll_alike : {s t : State} → Alike s t → (account : ℕ) → (or_nothing (entire_of s account)).0 + gain_of s account
    ≡ (or_nothing (entire_of t account)).0 + gain_of t account
moved_coll_alike {s} {t} h account =
    ap (λ (own : ℕ × ℕ). own.0 + gain_of s account) (own_alike h account)
    ∙ ap (λ n. (or_nothing (entire_of t account)).0 + n) (gain_alike h account)

gain_to_trove_alike : {s t : State} → Alike s t → (account : ℕ)
    → Alike (set_trove (owned s account 0 0) account ((or_nothing (entire_of s account)).0 + gain_of s account)
    (or_nothing (entire_of s account)).1) (set_trove (owned t account 0 0) account ((or_nothing (entire_of t account)).0
    + gain_of t account) (or_nothing (entire_of t account)).1)
gain_to_trove_alike h account =
    set_alike (owned_alike h account 0 0 (omega arith) (omega arith)) account _ _ _ _ (moved_coll_alike h account)
    (ap (λ (own : ℕ × ℕ). own.1) (own_alike h account))

-- ---- every verb

abbrev moved_in : ℕ → ℕ → Image → Image
moved_in account coll i =
    let had = unwrap_or (at i.wallets account) no_wallet in
    record i {
      brought = i.brought + coll;
      wallets = with_wallet i.wallets account (record {
        coll = had.coll + coll;
        lusd = had.lusd + 0;
      });
    }

abbrev moved_away : ℕ → ℕ → Image → Image
moved_away account coll i =
    let had = unwrap_or (at i.wallets account) no_wallet in
    record i {
      brought = i.brought - coll;
      wallets = with_wallet i.wallets account (record {
        coll = had.coll - coll;
        lusd = had.lusd - 0;
      });
    }

liquidate_alike : {s t : State} → Alike s t → (liquidator account : ℕ)
    → Alike (effect s (Liquidate liquidator account)) (effect t (Liquidate liquidator account))
liquidate_alike {s} {t} h liquidator account =
    subst (λ (r : Result One Refusal). Alike (effect s (Liquidate liquidator account)) (all_liquidated t liquidator
    (listed (victim_by account r)))) (one_alike h account)
    (all_liquidated_alike (listed (victim_by account (one s account))) liquidator h (single_serves s account
    (one s account) refl))

liquidate_lowest_alike : {s t : State} → Alike s t → (liquidator count : ℕ)
    → Alike (effect s (LiquidateLowest liquidator count)) (effect t (LiquidateLowest liquidator count))
liquidate_lowest_alike {s} {t} h liquidator count =
    subst (λ (vs : List Victim). Alike (effect s (LiquidateLowest liquidator count)) (all_liquidated t liquidator vs))
    (lowest_alike count h)
    (all_liquidated_alike (lowest s count) liquidator h (lowest_serves count s))

pub effect_alike : {s t : State} → Alike s t → (call : Call) → Alike (effect s call) (effect t call)
effect_alike {s} {t} h (Price price) = alike_by (λ i. record i { price = price }) s t _ _ h refl refl refl refl
    h.left h.right
effect_alike {s} {t} h (Advance minutes) = alike_by (λ i. record i { minute = i.minute + minutes }) s t _ _ h refl refl
    refl refl h.left h.right
effect_alike {s} {t} h (Fund account coll) = alike_by (moved_in account coll) s t _ _ h refl refl refl refl
    h.left h.right
effect_alike {s} {t} h (Take account coll) = alike_by (moved_away account coll) s t _ _ h refl refl refl refl
    h.left h.right
effect_alike h (Send from to lusd) = paid_alike (charged_alike h from 0 0 lusd lusd refl refl) to 0 0 lusd lusd
    refl refl
effect_alike h (Open account coll borrow bound hint) = open_alike h account coll borrow
effect_alike h (Adjust account coll_in coll_out borrow repay bound hint) =
    adjust_alike h account (record { coll_in = coll_in; coll_out = coll_out; borrow = borrow; repay = repay })
effect_alike h (Close account) = closed_alike h account _ _ _ _ (repaid_alike h account) (ap (λ (own : ℕ × ℕ). own.0)
    (own_alike h account))
effect_alike h (Provide account lusd) = provide_alike h account lusd
effect_alike h (Withdraw account lusd) = withdraw_alike h account lusd
effect_alike h (GainToTrove account hint) = gain_to_trove_alike h account
effect_alike h (Liquidate liquidator account) = liquidate_alike h liquidator account
effect_alike h (LiquidateLowest liquidator count) = liquidate_lowest_alike h liquidator count
effect_alike h (Redeem account lusd bound hint) = redeemed_alike h account lusd
effect_alike h (Claim account) = paid_alike (surplus_taken_alike h account) account _ _ 0 0
    (surplus_alike h account) refl
effect_alike {s} {t} h Rotate = alike_by (λ i. record i { generation = i.generation + 1; limit = LIM }) s t _ _ h refl
    refl refl refl h.left h.right

-- ---- what replies show

pub values_alike : {s t : State} → Alike s t → (call : Call) → values s call ≡ values t call
values_alike h (Price price) = refl
values_alike h (Advance minutes) = ap (λ (i : Image). (i.minute + minutes) ∷ []) h.image
values_alike h (Fund account coll) = refl
values_alike h (Take account coll) = refl
values_alike h (Send from to lusd) = refl
values_alike h (Open account coll borrow bound hint) = ap (λ (plan : Plan). plan.debt ∷ plan.fee ∷ [])
    (opening_alike h coll borrow)
values_alike h (Adjust account coll_in coll_out borrow repay bound hint) =
    ap (λ (plan : Plan). plan.coll ∷ plan.debt ∷ plan.fee ∷ []) (adjusting_alike h account (record {
      coll_in = coll_in;
      coll_out = coll_out;
      borrow = borrow;
      repay = repay;
    }))
values_alike h (Close account) = ap (λ (own : ℕ × ℕ). (own.1 - RESERVE) ∷ own.0 ∷ []) (own_alike h account)
values_alike {s} {t} h (Provide account lusd) =
    ap (λ n. n ∷ gain_of s account ∷ []) (amount_alike h account lusd 0)
    ∙ ap (λ n. amount_after t account lusd 0 ∷ n ∷ []) (gain_alike h account)
values_alike {s} {t} h (Withdraw account lusd) =
    ap (λ n. n ∷ gain_of s account ∷ []) (out_alike h account lusd)
    ∙ ap (λ n. out_of t account lusd ∷ n ∷ []) (gain_alike h account)
values_alike {s} {t} h (GainToTrove account hint) =
    ap (λ n. n ∷ ((or_nothing (entire_of s account)).0 + gain_of s account) ∷ []) (gain_alike h account)
    ∙ ap (λ n. gain_of t account ∷ n ∷ []) (moved_coll_alike h account)
values_alike h (Liquidate liquidator account) = ap one_values (one_alike h account)
values_alike h (LiquidateLowest liquidator count) = ap lowest_values (lowest_alike count h)
values_alike h (Redeem account lusd bound hint) =
    ap (λ (terms : RedeemTerms). terms.redeemed ∷ terms.drawn ∷ terms.fee ∷ terms.rate.base ∷ []) (terms_alike h lusd)
values_alike h (Claim account) = ap (λ n. n ∷ []) (surplus_alike h account)
values_alike h Rotate = ap (λ (i : Image). (i.generation + 1) ∷ []) h.image

pub done_alike : {s t : State} → Alike s t → (call : Call) → done_of s call ≡ done_of t call
done_alike h call = ap (λ (shown : List ℕ). record { kind = kind call; values = six shown }) (values_alike h call)
