-- The liquidation of one trove: how it is treated, what is refused, and what it does.
use Rattle.std.specs.Prelude.{ℕ, ◌+◌, ◌-◌, ◌/◌, ◌==◌, ◌&&◌, Bool, true, false, nat_lt, min, Option, Some, None, Result, Err, List, [], ◌∷◌, ◌++◌, if◌then◌else◌}
use Rattle.liq_num.specs.Quotient.{floor_of}
use Rattle.liq_types.specs.declared.amounts.TheConstants.{MCR, RESERVE, GAS_PART, CAP_WORTH}
use Rattle.liq_types.specs.declared.figures.Market.{Market}
use Rattle.liq_types.specs.declared.figures.Trove.{Trove}
use Rattle.liq_types.specs.declared.replies.Refusal.{Refusal}
use Rattle.liq_types.specs.declared.replies.Refusal.TheVariants.{NoTrove, NotLiquidatable, PoolTooSmall}
use Rattle.liq_types.specs.Payments.{credited, surplus_added}
use Rattle.liq_types.specs.Rules.{Rule, first_refusal, outcome, last_trove_stays}
use Rattle.liq_types.specs.State.{State}
use Rattle.liq_types.specs.Tables.{at}
use Rattle.liq_types.specs.Totals.{is_below_percent, is_at_most_whole, is_ratio_below, is_normal, market_of, pool_total}
use Rattle.liq_troves.specs.Own.{lifted, redistributed, snapped}
use Rattle.liq_troves.specs.declared.sums.Sums.{Sums}
use Rattle.liq_troves.specs.Rows.{entire_by, spread_rules}
use Rattle.liq_troves.specs.StakeSums.{sums_words, trove_rows}
use Rattle.liq_troves.specs.Standing.{Books, lift, spread, snap}
use Rattle.liq_stability.specs.Own.{offset}
use Rattle.liq_liquidation.specs.declared.one.One.{One}
use Rattle.liq_liquidation.specs.declared.one.Victim.{Victim}

-- ---- treatments

pub data Treatment : Type 0 where
  -- the pool takes over what it can, and the other troves the rest
  Plain : Treatment
  -- the other troves take over all
  Redistributed : Treatment
  -- the pool takes over all the debt for a part of the collateral, and the owner keeps the rest
  Capped : Treatment
  -- the trove may not be liquidated
  Kept : Treatment

-- The table of treatments, by the mode and the trove's own ratio. The first line that holds
-- decides.
abbrev pub in_normal : Market → ℕ → ℕ → Treatment
in_normal m coll debt =
    if is_below_percent coll debt m.price MCR then Plain else Kept

abbrev pub in_recovery : Market → ℕ → ℕ → Treatment
in_recovery m coll debt =
    if is_at_most_whole coll debt m.price then Redistributed else
    if is_below_percent coll debt m.price MCR then Plain else
    if is_ratio_below coll debt m.total_coll m.total_debt then Capped else Kept

abbrev pub treatment : Market → ℕ → ℕ → Treatment
treatment m coll debt = if is_normal m then in_normal m coll debt else in_recovery m coll debt

-- ---- what becomes of the trove

-- collateral for the liquidator
abbrev pub gas_of : ℕ → ℕ
gas_of coll = coll / GAS_PART

abbrev pub plain : ℕ → ℕ → ℕ → One
plain coll debt total =
    let gas = gas_of coll in
    let offset_debt = min debt total in
    let offset_coll = floor_of (coll - gas) offset_debt debt in
    record {
      gas = gas;
      offset_debt = offset_debt;
      offset_coll = offset_coll;
      spread_debt = debt - offset_debt;
      spread_coll = coll - gas - offset_coll;
      surplus = 0;
    }

abbrev pub redistributed_whole : ℕ → ℕ → One
redistributed_whole coll debt =
    record {
      gas = gas_of coll;
      offset_debt = 0;
      offset_coll = 0;
      spread_debt = debt;
      spread_coll = coll - gas_of coll;
      surplus = 0;
    }

-- collateral worth 110 percent of the debt
abbrev pub cap_of : ℕ → ℕ → ℕ
cap_of price debt = floor_of debt CAP_WORTH price

abbrev pub capped : ℕ → ℕ → ℕ → One
capped price coll debt =
    let cap = cap_of price debt in
    record {
      gas = gas_of cap;
      offset_debt = debt;
      offset_coll = cap - gas_of cap;
      spread_debt = 0;
      spread_coll = 0;
      surplus = coll - cap;
    }

abbrev pub nothing_done : One
nothing_done = record {
  gas = 0;
  offset_debt = 0;
  offset_coll = 0;
  spread_debt = 0;
  spread_coll = 0;
  surplus = 0;
}

abbrev pub treated : Treatment → ℕ → ℕ → ℕ → ℕ → One
treated Plain price coll debt total = plain coll debt total
treated Redistributed price coll debt total = redistributed_whole coll debt
treated Capped price coll debt total = capped price coll debt
treated Kept price coll debt total = nothing_done

-- where the collateral and the debt go
abbrev pub one_total_coll : One → ℕ
one_total_coll one = one.gas + one.offset_coll + one.spread_coll + one.surplus

abbrev pub one_total_debt : One → ℕ
one_total_debt one = one.offset_debt + one.spread_debt

-- ---- what is refused

abbrev pub is_kept : Treatment → Bool
is_kept Kept = true
is_kept _ = false

abbrev pub is_capped : Treatment → Bool
is_capped Capped = true
is_capped _ = false

-- the rules of the table alone, on a trove with these entire amounts
abbrev pub treated_rules : Market → ℕ → ℕ → ℕ → List Rule
treated_rules m coll debt total =
    let treatment = treatment m coll debt in
    (is_kept treatment, NotLiquidatable coll debt m.price m.total_coll m.total_debt)
    ∷ (is_capped treatment && nat_lt total debt, PoolTooSmall total debt)
    ∷ []

abbrev pub treated_of : Market → ℕ → ℕ → ℕ → Result One Refusal
treated_of m coll debt total =
    outcome (first_refusal (treated_rules m coll debt total))
    (treated (treatment m coll debt) m.price coll debt total)

-- all rules of a liquidation: the last trove stays, those of the table, and those on the sums
-- beside the other troves
abbrev pub one_rules : Market → Sums → ℕ → ℕ → ℕ → List Rule
one_rules m others coll debt total =
    let one = treated (treatment m coll debt) m.price coll debt total in
    last_trove_stays m ∷ (treated_rules m coll debt total ++ spread_rules others one.spread_coll
    one.spread_debt)

abbrev pub one_of : Market → Sums → ℕ → ℕ → ℕ → Result One Refusal
one_of m others coll debt total =
    outcome (first_refusal (one_rules m others coll debt total))
    (treated (treatment m coll debt) m.price coll debt total)

-- the sums beside the troves that are left when this one leaves
abbrev pub without_stake : Sums → Trove → Sums
without_stake sums t = record sums { stakes = sums.stakes - t.stake }

-- what becomes of a trove, or why it may not be liquidated
abbrev pub one_by : Market → Sums → Trove → ℕ → Result One Refusal
one_by m sums t total =
    let own = entire_by sums t in
    one_of m (without_stake sums t) own.0 own.1 total

-- the same of an account, which may have no trove
abbrev pub one_in : Market → Sums → ℕ → ℕ → Option Trove → Result One Refusal
one_in m sums total account None = Err (NoTrove account)
one_in m sums total account (Some t) = one_by m sums t total

-- ---- in a state

-- what becomes of an account's trove, or why it may not be liquidated
abbrev pub one : State → ℕ → Result One Refusal
one s account = one_in (market_of s) (sums_words s) (pool_total s) account
    (at (trove_rows s) account)

-- ---- what it does

abbrev pub offset_if_any : State → ℕ → ℕ → State
offset_if_any s debt coll = if debt == 0 then s else offset s debt coll

-- all but the liquidator's pay, in this order: the trove leaves, the pool offsets, the others take
-- over the rest, and stakes are made anew from then on
abbrev pub struck : State → Victim → State
struck s v =
    let left = lifted s v.account in
    let pooled = offset_if_any left v.one.offset_debt v.one.offset_coll in
    let shared = redistributed pooled v.one.spread_coll v.one.spread_debt in
    surplus_added (snapped shared) v.account v.one.surplus

-- what it makes of the troves and of the pools that hold theirs
abbrev pub struck_books : Books → Victim → Books
struck_books b v = snap (spread (lift b v.account) v.one.spread_coll v.one.spread_debt)

-- the liquidator gets the trove's reserve, and a part of its collateral
abbrev pub rewarded : State → ℕ → ℕ → State
rewarded s liquidator gas = credited (record s { reserve = s.reserve - RESERVE }) liquidator
    gas RESERVE

abbrev pub liquidated : State → ℕ → Victim → State
liquidated s liquidator v = rewarded (struck s v) liquidator v.one.gas
