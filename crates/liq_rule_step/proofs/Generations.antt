-- What leaves the generation of the journal and its limit: every call but a rotation.
use Rattle.std.proofs.Common.{◌≡◌, ℕ, ◌-◌, Bool, true, false, cond, List, [], ◌∷◌, Some, None, Option, refl, ap, ◌∙◌}
use Rattle.std.specs.Prelude.{◌==◌, fold}
use Rattle.liq_types.specs.declared.amounts.TheConstants.{RESERVE}
use Rattle.liq_types.specs.declared.requests.Call.{Call}
use Rattle.liq_types.specs.declared.requests.Call.TheVariants.{Price, Advance, Fund, Take, Send, Open, Adjust, Close, Provide, Withdraw, GainToTrove, Liquidate, LiquidateLowest, Redeem, Claim, Rotate}
use Rattle.liq_types.specs.Payments.{credited, charged}
use Rattle.liq_types.specs.State.{State, TroveEntry}
use Rattle.liq_types.specs.Tables.{at}
use Rattle.liq_types.specs.Totals.{market_of, or_nothing}
use Rattle.liq_troves.specs.Own.{lifted_entry, set_trove}
use Rattle.liq_troves.specs.StakeSums.{entire_of}
use Rattle.liq_stability.specs.Own.{owned, offset}
use Rattle.liq_borrow.specs.declared.change.Change.{Change}
use Rattle.liq_borrow.specs.Borrowing.{adjusting_terms, closing_terms}
use Rattle.liq_liquidation.specs.declared.one.Victim.{Victim}
use Rattle.liq_liquidation.specs.Lowest.{lowest, victim_by}
use Rattle.liq_liquidation.specs.One.{one, liquidated}
use Rattle.liq_redemption.specs.declared.cut.Cut.{Cut}
use Rattle.liq_redemption.specs.Redemption.{redeeming_terms, visited, closed_by, cut_entire, cut_down}
use Rattle.liq_rule_step.specs.Borrowing.{with_fee}
use Rattle.liq_rule_step.specs.Liquidation.{listed, all_liquidated}
use Rattle.liq_rule_step.specs.Step.{effect}
use Rattle.liq_types.specs.Verbs.{is_rotate}

-- generation and limit
abbrev kept : State → ℕ × ℕ
kept s = (s.generation, s.limit)

lifted-kept : (s : State) (account : ℕ) (o : Option TroveEntry) → kept (lifted_entry s account o) ≡ kept s
lifted-kept s account None = refl
lifted-kept s account (Some t) = refl

cut-kept : (s : State) (cut : Cut) (o : Option (ℕ × ℕ)) → kept (cut_entire s cut o) ≡ kept s
cut-kept s cut None = refl
cut-kept s cut (Some own) = by cut.full where
  by : (b : Bool) → kept (cond b (closed_by s cut own) (set_trove s cut.account (own.0 - cut.draw) (own.1 - cut.lot)))
      ≡ kept s
  by true = lifted-kept s cut.account (at s.troves cut.account)
  by false = lifted-kept s cut.account (at s.troves cut.account)

cuts-kept : (cuts : List Cut) (s : State) → kept (fold cut_down s cuts) ≡ kept s
cuts-kept [] s = refl
cuts-kept (cut ∷ cuts) s = cuts-kept cuts (cut_down s cut) ∙ cut-kept s cut (entire_of s cut.account)

liquidated-kept : (s : State) (liquidator : ℕ) (v : Victim) → kept (liquidated s liquidator v) ≡ kept s
liquidated-kept s liquidator v = by (at s.troves v.account) (v.one.offset_debt == 0) where
  by : (o : Option TroveEntry) (b : Bool)
      → kept (cond b (lifted_entry s v.account o) (offset (lifted_entry s v.account o) v.one.offset_debt
      v.one.offset_coll)) ≡ kept s
  by o true = lifted-kept s v.account o
  by o false = lifted-kept s v.account o

all-kept : (vs : List Victim) (s : State) (liquidator : ℕ) → kept (all_liquidated s liquidator vs) ≡ kept s
all-kept [] s liquidator = refl
all-kept (v ∷ vs) s liquidator = all-kept vs (liquidated s liquidator v) liquidator ∙ liquidated-kept s liquidator v

effect-kept : (s : State) (call : Call) → is_rotate call ≡ false → kept (effect s call) ≡ kept s
effect-kept s (Price price) h = refl
effect-kept s (Advance minutes) h = refl
effect-kept s (Fund account coll) h = refl
effect-kept s (Take account coll) h = refl
effect-kept s (Send from to lusd) h = refl
effect-kept s (Open account coll borrow bound hint) h = refl
effect-kept s (Adjust account coll_in coll_out borrow repay bound hint) h =
    let change : Change = record { coll_in = coll_in; coll_out = coll_out; borrow = borrow; repay = repay } in
    let plan = adjusting_terms (market_of s) (or_nothing (entire_of s account)) change in
    lifted-kept (credited (charged (with_fee s plan) account coll_in repay) account coll_out borrow) account
    (at s.troves account)
effect-kept s (Close account) h =
    let terms = closing_terms (or_nothing (entire_of s account)) in
    let settled = credited (charged s account 0 terms.0) account terms.1 0 in
    lifted-kept (record settled { reserve = settled.reserve - RESERVE }) account (at s.troves account)
effect-kept s (Provide account lusd) h = refl
effect-kept s (Withdraw account lusd) h = refl
effect-kept s (GainToTrove account hint) h = lifted-kept (owned s account 0 0) account (at s.troves account)
effect-kept s (Liquidate liquidator account) h = all-kept (listed (victim_by account (one s account))) s liquidator
effect-kept s (LiquidateLowest liquidator count) h = all-kept (lowest s count) s liquidator
effect-kept s (Redeem account lusd bound hint) h = cuts-kept (redeeming_terms (market_of s) (visited s) lusd).cuts s
effect-kept s (Claim account) h = refl
effect-kept s Rotate h = cc

-- the effect of every call but a rotation leaves the generation
pub effect-generation : (s : State) (call : Call) → is_rotate call ≡ false → (effect s call).generation ≡ s.generation
effect-generation s call h = ap (λ (pair : ℕ × ℕ). pair.0) (effect-kept s call h)

-- a call that does not rotate leaves the limit
pub effect-limit : (s : State) (call : Call) → is_rotate call ≡ false → (effect s call).limit ≡ s.limit
effect-limit s call h = ap (λ (pair : ℕ × ℕ). pair.1) (effect-kept s call h)
