-- The minute never falls: the passing of minutes alone moves it.
use Rattle.std.proofs.Common.{◌≡◌, ℕ, ◌-◌, ◌≤◌, Bool, true, false, cond, List, [], ◌∷◌, Some, None, Option, refl, ◌∙◌, arith}
use Rattle.std.specs.Prelude.{◌==◌, fold}
use Rattle.liq_types.specs.declared.amounts.TheConstants.{RESERVE}
use Rattle.liq_types.specs.declared.requests.Call.{Call}
use Rattle.liq_types.specs.declared.requests.Call.TheVariants.{Price, Advance, Fund, Take, Send, Open, Adjust, Close, Provide, Withdraw, GainToTrove, Liquidate, LiquidateLowest, Redeem, Claim, Rotate}
use Rattle.liq_types.specs.declared.requests.Command.{Command}
use Rattle.liq_types.specs.Payments.{credited, charged}
use Rattle.liq_types.specs.State.{State, TroveEntry}
use Rattle.liq_types.specs.Tables.{at}
use Rattle.liq_types.specs.Totals.{market_of, or_nothing}
use Rattle.liq_troves.specs.Own.{lifted_entry, set_trove}
use Rattle.liq_troves.specs.StakeSums.{entire_of}
use Rattle.liq_stability.specs.Own.{owned, offset}
use Rattle.liq_borrow.specs.declared.change.Change.{Change}
use Rattle.liq_borrow.specs.Borrowing.{adjusting_terms, closing_terms}
use Rattle.liq_liquidation.specs.declared.one.Victim.{Victim}
use Rattle.liq_liquidation.specs.Lowest.{lowest, victim_by}
use Rattle.liq_liquidation.specs.One.{one, liquidated}
use Rattle.liq_redemption.specs.declared.cut.Cut.{Cut}
use Rattle.liq_redemption.specs.Redemption.{redeeming_terms, visited, closed_by, cut_entire, cut_down}
use Rattle.liq_rule_step.specs.Borrowing.{with_fee}
use Rattle.liq_rule_step.specs.Liquidation.{listed, all_liquidated}
use Rattle.liq_rule_step.specs.Rules.{effect}
use Rattle.liq_rule_step.specs.Step.{after}

lifted-minute : (s : State) (account : ℕ) (o : Option TroveEntry) → (lifted_entry s account o).minute ≡ s.minute
lifted-minute s account None = refl
lifted-minute s account (Some t) = refl

cut-minute : (s : State) (cut : Cut) (o : Option (ℕ × ℕ)) → (cut_entire s cut o).minute ≡ s.minute
cut-minute s cut None = refl
cut-minute s cut (Some own) = by cut.full where
  by : (b : Bool) → (cond b (closed_by s cut own) (set_trove s cut.account (own.0 - cut.draw) (own.1 - cut.lot))).minute
      ≡ s.minute
  by true = lifted-minute s cut.account (at s.troves cut.account)
  by false = lifted-minute s cut.account (at s.troves cut.account)

cuts-minute : (cuts : List Cut) (s : State) → (fold cut_down s cuts).minute ≡ s.minute
cuts-minute [] s = refl
cuts-minute (cut ∷ cuts) s = cuts-minute cuts (cut_down s cut) ∙ cut-minute s cut (entire_of s cut.account)

liquidated-minute : (s : State) (liquidator : ℕ) (v : Victim) → (liquidated s liquidator v).minute ≡ s.minute
liquidated-minute s liquidator v = by (at s.troves v.account) (v.one.offset_debt == 0) where
  by : (o : Option TroveEntry) (b : Bool)
      → (cond b (lifted_entry s v.account o) (offset (lifted_entry s v.account o) v.one.offset_debt
      v.one.offset_coll)).minute ≡ s.minute
  by o true = lifted-minute s v.account o
  by o false = lifted-minute s v.account o

all-minute : (vs : List Victim) (s : State) (liquidator : ℕ) → (all_liquidated s liquidator vs).minute ≡ s.minute
all-minute [] s liquidator = refl
all-minute (v ∷ vs) s liquidator = all-minute vs (liquidated s liquidator v) liquidator
    ∙ liquidated-minute s liquidator v

same : (m n : ℕ) → m ≡ n → n ≤ m
same m n h = omega (arith, h)

effect_later : (s : State) (call : Call) → s.minute ≤ (effect s call).minute
effect_later s (Price price) = same _ _ refl
effect_later s (Advance minutes) = omega arith
effect_later s (Fund account coll) = same _ _ refl
effect_later s (Take account coll) = same _ _ refl
effect_later s (Send from to lusd) = same _ _ refl
effect_later s (Open account coll borrow bound hint) = same _ _ refl
effect_later s (Adjust account coll_in coll_out borrow repay bound hint) =
    let change : Change = record { coll_in = coll_in; coll_out = coll_out; borrow = borrow; repay = repay } in
    let plan = adjusting_terms (market_of s) (or_nothing (entire_of s account)) change in
    same _ _ (lifted-minute (credited (charged (with_fee s plan) account coll_in repay) account coll_out borrow) account
    (at s.troves account))
effect_later s (Close account) =
    let terms = closing_terms (or_nothing (entire_of s account)) in
    let settled = credited (charged s account 0 terms.0) account terms.1 0 in
    same _ _ (lifted-minute (record settled { reserve = settled.reserve - RESERVE }) account (at s.troves account))
effect_later s (Provide account lusd) = same _ _ refl
effect_later s (Withdraw account lusd) = same _ _ refl
effect_later s (GainToTrove account hint) = same _ _ (lifted-minute (owned s account 0 0) account (at s.troves account))
effect_later s (Liquidate liquidator account) =
    same _ _ (all-minute (listed (victim_by account (one s account))) s liquidator)
effect_later s (LiquidateLowest liquidator count) = same _ _ (all-minute (lowest s count) s liquidator)
effect_later s (Redeem account lusd bound hint) =
    same _ _ (cuts-minute (redeeming_terms (market_of s) (visited s) lusd).cuts s)
effect_later s (Claim account) = same _ _ refl
effect_later s Rotate = same _ _ refl

pub later_after : (s : State) (c : Command) → s.minute ≤ (after s c).minute
later_after s c = effect_later s c.call
