-- What a call adds to the fee pool is the fee that its reply tells.
use Rattle.std.proofs.Common.{◌≡◌, ℕ, ◌+◌, ◌-◌, Bool, true, false, cond, List, [], ◌∷◌, Some, None, Option, Ok, refl, sym, ap, ◌∙◌, arith}
use Rattle.std.specs.Prelude.{◌==◌, fold}
use Rattle.std.proofs.lemmas.List.Sums.{sum_by-cons}
use Rattle.liq_types.specs.declared.amounts.TheConstants.{RESERVE}
use Rattle.liq_types.specs.declared.requests.Call.{Call}
use Rattle.liq_types.specs.declared.requests.Call.TheVariants.{Price, Advance, Fund, Take, Send, Open, Adjust, Close, Provide, Withdraw, GainToTrove, Liquidate, LiquidateLowest, Redeem, Claim, Rotate}
use Rattle.liq_types.specs.declared.requests.Command.{Command}
use Rattle.liq_types.specs.Payments.{credited, charged}
use Rattle.liq_types.specs.State.{State, TroveEntry}
use Rattle.liq_types.specs.Tables.{at}
use Rattle.liq_types.specs.Totals.{market_of, or_nothing}
use Rattle.liq_troves.specs.Own.{lifted_entry, set_trove}
use Rattle.liq_troves.specs.StakeSums.{entire_of}
use Rattle.liq_stability.specs.Own.{owned, offset}
use Rattle.liq_borrow.specs.declared.change.Change.{Change}
use Rattle.liq_borrow.specs.Borrowing.{adjusting_terms, closing_terms}
use Rattle.liq_liquidation.specs.declared.one.Victim.{Victim}
use Rattle.liq_liquidation.specs.Lowest.{lowest, victim_by}
use Rattle.liq_liquidation.specs.One.{one, liquidated}
use Rattle.liq_redemption.specs.declared.cut.Cut.{Cut}
use Rattle.liq_redemption.specs.Redemption.{redeeming_terms, visited, closed_by, cut_entire, cut_down}
use Rattle.liq_rule_step.specs.Borrowing.{with_fee}
use Rattle.liq_rule_step.specs.Liquidation.{listed, all_liquidated}
use Rattle.liq_rule_step.specs.Rules.{done_of}
use Rattle.liq_rule_step.specs.Step.{after, effect}
use Rattle.liq_disk_pair.specs.Replay.{replay}
use Rattle.liq_disk_pair.proofs.Basing.{ok_same}
use Rattle.liq_disk_pair.proofs.Replaying.{first_accepted, replay_none}
use Rattle.liq_text_staking.specs.Paid.{Fees, fee_of, fees_along, coll_in, lusd_in}

-- ---- what leaves the fee pool as it is

abbrev pool : State → Fees
pool s = (s.fee_coll, s.fee_lusd)

lifted-pool : (s : State) (account : ℕ) (o : Option TroveEntry) → pool (lifted_entry s account o) ≡ pool s
lifted-pool s account None = refl
lifted-pool s account (Some t) = refl

cut-pool : (s : State) (cut : Cut) (o : Option (ℕ × ℕ)) → pool (cut_entire s cut o) ≡ pool s
cut-pool s cut None = refl
cut-pool s cut (Some own) = by cut.full where
  by : (b : Bool) → pool (cond b (closed_by s cut own) (set_trove s cut.account (own.0 - cut.draw) (own.1 - cut.lot)))
      ≡ pool s
  by true = lifted-pool s cut.account (at s.troves cut.account)
  by false = lifted-pool s cut.account (at s.troves cut.account)

cuts-pool : (cuts : List Cut) (s : State) → pool (fold cut_down s cuts) ≡ pool s
cuts-pool [] s = refl
cuts-pool (cut ∷ cuts) s = cuts-pool cuts (cut_down s cut) ∙ cut-pool s cut (entire_of s cut.account)

liquidated-pool : (s : State) (liquidator : ℕ) (v : Victim) → pool (liquidated s liquidator v) ≡ pool s
liquidated-pool s liquidator v = by (at s.troves v.account) (v.one.offset_debt == 0) where
  by : (o : Option TroveEntry) (b : Bool)
      → pool (cond b (lifted_entry s v.account o) (offset (lifted_entry s v.account o) v.one.offset_debt
      v.one.offset_coll)) ≡ pool s
  by o true = lifted-pool s v.account o
  by o false = lifted-pool s v.account o

all-pool : (vs : List Victim) (s : State) (liquidator : ℕ) → pool (all_liquidated s liquidator vs) ≡ pool s
all-pool [] s liquidator = refl
all-pool (v ∷ vs) s liquidator = all-pool vs (liquidated s liquidator v) liquidator ∙ liquidated-pool s liquidator v

-- ---- a call

record IsAdded (before : State) (fee : Fees) (now : State) : Type 0 where
  pub coll : now.fee_coll ≡ before.fee_coll + fee.0
  pub lusd : now.fee_lusd ≡ before.fee_lusd + fee.1

none_added : (before now : State) → pool now ≡ pool before → IsAdded before (0, 0) now
none_added before now same =
    let coll : now.fee_coll ≡ before.fee_coll = ap (λ (p : Fees). p.0) same in
    let lusd : now.fee_lusd ≡ before.fee_lusd = ap (λ (p : Fees). p.1) same in
    record { coll = omega (arith, coll); lusd = omega (arith, lusd) }

lusd_added : (before now : State) (fee : ℕ) → pool now ≡ (before.fee_coll, before.fee_lusd + fee)
    → IsAdded before (0, fee) now
lusd_added before now fee same =
    let coll : now.fee_coll ≡ before.fee_coll = ap (λ (p : Fees). p.0) same in
    record { coll = omega (arith, coll); lusd = ap (λ (p : Fees). p.1) same }

coll_added : (before now : State) (fee : ℕ) → pool now ≡ (before.fee_coll + fee, before.fee_lusd)
    → IsAdded before (fee, 0) now
coll_added before now fee same =
    let lusd : now.fee_lusd ≡ before.fee_lusd = ap (λ (p : Fees). p.1) same in
    record { coll = ap (λ (p : Fees). p.0) same; lusd = omega (arith, lusd) }

effect_adds : (s : State) (call : Call) → IsAdded s (fee_of (done_of s call)) (effect s call)
effect_adds s (Price price) = none_added s _ refl
effect_adds s (Advance minutes) = none_added s _ refl
effect_adds s (Fund account coll) = none_added s _ refl
effect_adds s (Take account coll) = none_added s _ refl
effect_adds s (Send from to lusd) = none_added s _ refl
effect_adds s (Open account coll borrow bound hint) = lusd_added s _ _ refl
effect_adds s (Adjust account coll_in coll_out borrow repay bound hint) =
    let change : Change = record { coll_in = coll_in; coll_out = coll_out; borrow = borrow; repay = repay } in
    let plan = adjusting_terms (market_of s) (or_nothing (entire_of s account)) change in
    lusd_added s _ _ (lifted-pool (credited (charged (with_fee s plan) account coll_in repay) account coll_out borrow)
    account (at s.troves account))
effect_adds s (Close account) =
    let terms = closing_terms (or_nothing (entire_of s account)) in
    let settled = credited (charged s account 0 terms.0) account terms.1 0 in
    none_added s _ (lifted-pool (record settled { reserve = settled.reserve - RESERVE }) account (at s.troves account))
effect_adds s (Provide account lusd) = none_added s _ refl
effect_adds s (Withdraw account lusd) = none_added s _ refl
effect_adds s (GainToTrove account hint) =
    none_added s _ (lifted-pool (owned s account 0 0) account (at s.troves account))
effect_adds s (Liquidate liquidator account) =
    none_added s _ (all-pool (listed (victim_by account (one s account))) s liquidator)
effect_adds s (LiquidateLowest liquidator count) = none_added s _ (all-pool (lowest s count) s liquidator)
effect_adds s (Redeem account lusd bound hint) =
    let terms = redeeming_terms (market_of s) (visited s) lusd in
    coll_added s _ terms.fee (ap (λ (p : Fees). (s.fee_coll + terms.fee, p.1)) (cuts-pool terms.cuts s))
effect_adds s (Claim account) = none_added s _ refl
effect_adds s Rotate = none_added s _ refl

-- ---- a list of commands

-- the fees come to what the pool has grown by
pub record HasGrown (before : State) (fees : List Fees) (now : State) : Type 0 where
  pub coll : now.fee_coll ≡ before.fee_coll + coll_in fees
  pub lusd : now.fee_lusd ≡ before.fee_lusd + lusd_in fees

grown_by : (before mid now : State) (fee : Fees) (fees : List Fees) → IsAdded before fee mid → HasGrown mid fees now
    → HasGrown before (fee ∷ fees) now
grown_by before mid now fee fees one more =
    let coll = sum_by-cons (λ (f : Fees). f.0) fee fees in
    let lusd = sum_by-cons (λ (f : Fees). f.1) fee fees in
    record { coll = omega (arith, coll, one.coll, more.coll); lusd = omega (arith, lusd, one.lusd, more.lusd) }

none_grown : (s end : State) → s ≡ end → HasGrown s [] end
none_grown s end same =
    let coll : s.fee_coll ≡ end.fee_coll = ap (λ (t : State). t.fee_coll) same in
    let lusd : s.fee_lusd ≡ end.fee_lusd = ap (λ (t : State). t.fee_lusd) same in
    record { coll = omega (arith, coll); lusd = omega (arith, lusd) }

added_after : (s : State) (c : Command) → IsAdded s (fee_of (done_of s c.call)) (after s c)
added_after s c = let h = effect_adds s c.call in record { coll = h.coll; lusd = h.lusd }

pub replay_grows : (commands : List Command) (index : ℕ) (s end : State) → replay index s commands ≡ Ok end
    → HasGrown s (fees_along s commands) end
replay_grows [] index s end came = none_grown s end (ok_same s end (sym (replay_none index s) ∙ came))
replay_grows (c ∷ cs) index s end came =
    let first = first_accepted index s end c cs came in
    grown_by s (after s c) end (fee_of (done_of s c.call)) (fees_along (after s c) cs) (added_after s c)
    (replay_grows cs (index + 1) (after s c) end first.rest)
