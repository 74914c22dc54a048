-- Troves of their owners: what is refused, in order, and what a trove then has.
use Rattle.std.specs.Prelude.{ℕ, ◌+◌, ◌-◌, ◌*◌, ◌==◌, ◌&&◌, ◌||◌, Bool, nat_lt, is_none, Option, Result, List, [], ◌∷◌, if◌then◌else◌}
use Rattle.liq_types.specs.declared.amounts.TheConstants.{MCR, CCR, RESERVE, MIN_NET, FLOOR_RATE}
use Rattle.liq_types.specs.declared.figures.Market.{Market}
use Rattle.liq_types.specs.declared.figures.Wallet.{Wallet}
use Rattle.liq_types.specs.declared.replies.Refusal.{Refusal}
use Rattle.liq_types.specs.declared.replies.Refusal.TheVariants.{AmountLimit, ShortCollateral, ShortTokens, TroveExists, NoTrove, NetDebtLow, RatioLow, SystemRatioLow, RecoveryForbids, RatioFalls, BothWays, NoChange, NoGain}
use Rattle.liq_types.specs.Rules.{Rule, first_refusal, outcome, where_below, where_short, where_above, only_where, last_trove_stays}
use Rattle.liq_types.specs.Totals.{worth, asked, is_recovery, is_normal, limit_of}
pub use Rattle.liq_types.specs.Totals.{or_nothing}
use Rattle.liq_rate.specs.Bound.{fee_bound, fee_over}
use Rattle.liq_rate.specs.Rate.{rate_kept, rate_left, rate_at, borrow_fee}
use Rattle.liq_rate.specs.declared.rate.Rate.{Rate}
use Rattle.liq_borrow.specs.declared.change.Change.{Change}
use Rattle.liq_borrow.specs.declared.change.Plan.{Plan}

-- ---- fees

-- a borrowing has no fee in Recovery Mode
abbrev pub fee_now : Market → ℕ → ℕ
fee_now m amount = if is_recovery m then 0 else borrow_fee (rate_left m) amount

-- the base rate after a borrowing, which Recovery Mode leaves
abbrev pub rate_borrowed : Market → ℕ → Rate
rate_borrowed m borrow = if is_normal m && nat_lt 0 borrow then rate_at m (rate_left m)
    else rate_kept m

abbrev pub least_bound : Market → ℕ
least_bound m = if is_recovery m then 0 else FLOOR_RATE

-- ---- ratios

-- the percent that a trove must have where its debt grows
abbrev pub least_ratio : Market → ℕ
least_ratio m = if is_recovery m then CCR else MCR

abbrev pub ratio_low : Market → ℕ → ℕ → ℕ → Rule
ratio_low m percent coll debt = where_below (worth coll m.price) (asked percent debt) RatioLow

-- refused in Normal Mode, where the totals that would result have too low a ratio
abbrev pub system_ratio_low : Market → ℕ → ℕ → Rule
system_ratio_low m coll debt = only_where (is_normal m) (where_below (worth coll m.price)
    (asked CCR debt) SystemRatioLow)

-- refused in Recovery Mode
abbrev pub recovery_forbids : Market → Rule
recovery_forbids m = where_below (worth m.total_coll m.price) (asked CCR m.total_debt)
    RecoveryForbids

-- ---- open

abbrev pub open_debt : Market → ℕ → ℕ
open_debt m borrow = borrow + fee_now m borrow + RESERVE

abbrev pub opening_terms : Market → ℕ → ℕ → Plan
opening_terms m coll borrow =
    record {
      coll = coll;
      debt = open_debt m borrow;
      fee = fee_now m borrow;
      rate = rate_borrowed m borrow;
    }

abbrev pub open_rules : Market → Wallet → Bool → ℕ → ℕ → ℕ → ℕ → List Rule
open_rules m wallet exists account coll borrow bound =
    let terms = opening_terms m coll borrow in
    (exists, TroveExists account)
    ∷ fee_bound bound (least_bound m)
    ∷ fee_over terms.fee borrow bound
    ∷ where_below (borrow + terms.fee) MIN_NET NetDebtLow
    ∷ where_above (m.total_debt + terms.debt) (limit_of m) AmountLimit
    ∷ where_short coll wallet.coll ShortCollateral
    ∷ ratio_low m (least_ratio m) coll terms.debt
    ∷ system_ratio_low m (m.total_coll + coll) (m.total_debt + terms.debt)
    ∷ []

abbrev pub open_plan : Market → Wallet → Bool → ℕ → ℕ → ℕ → ℕ → Result Plan Refusal
open_plan m wallet exists account coll borrow bound =
    outcome (first_refusal (open_rules m wallet exists account coll borrow bound))
    (opening_terms m coll borrow)

-- ---- adjust

abbrev pub adjusted_coll : ℕ → Change → ℕ
adjusted_coll coll change = coll + change.coll_in - change.coll_out

abbrev pub adjusted_debt : Market → ℕ → Change → ℕ
adjusted_debt m debt change = debt + change.borrow + fee_now m change.borrow - change.repay

-- what a change makes of a trove that has these entire amounts
abbrev pub adjusting_terms : Market → ℕ × ℕ → Change → Plan
adjusting_terms m had change =
    record {
      coll = adjusted_coll had.0 change;
      debt = adjusted_debt m had.1 change;
      fee = fee_now m change.borrow;
      rate = rate_borrowed m change.borrow;
    }

abbrev pub both_ways : ℕ → ℕ → Rule
both_ways first second = (nat_lt 0 first && nat_lt 0 second, BothWays first second)

abbrev pub is_no_change : Change → Bool
is_no_change change = change.coll_in == 0 && change.coll_out == 0 && change.borrow
    == 0 && change.repay == 0

abbrev pub adjust_rules : Market → Wallet → Option (ℕ × ℕ) → ℕ → Change → ℕ → List Rule
adjust_rules m wallet entire account change bound =
    let had = or_nothing entire in
    let terms = adjusting_terms m had change in
    let borrows = nat_lt 0 change.borrow in
    (is_none entire, NoTrove account)
    ∷ only_where borrows (fee_bound bound (least_bound m))
    ∷ both_ways change.coll_in change.coll_out
    ∷ both_ways change.borrow change.repay
    ∷ (is_no_change change, NoChange)
    ∷ only_where (nat_lt 0 change.coll_out) (recovery_forbids m)
    ∷ fee_over terms.fee change.borrow bound
    ∷ where_short change.coll_in wallet.coll ShortCollateral
    ∷ where_short change.coll_out had.0 ShortCollateral
    ∷ where_short change.repay wallet.lusd ShortTokens
    ∷ only_where (nat_lt 0 change.repay) (where_below (had.1 - RESERVE - change.repay) MIN_NET
    NetDebtLow)
    ∷ where_above (m.total_debt + change.borrow + terms.fee) (limit_of m) AmountLimit
    ∷ only_where (is_normal m || borrows) (ratio_low m (least_ratio m) terms.coll terms.debt)
    ∷ only_where (is_recovery m && borrows) (where_below (terms.coll * had.1) (had.0 * terms.debt)
    RatioFalls)
    ∷ system_ratio_low m (m.total_coll + change.coll_in - change.coll_out) (m.total_debt
    + change.borrow + terms.fee - change.repay)
    ∷ []

abbrev pub adjust_plan : Market → Wallet → Option (ℕ × ℕ) → ℕ → Change → ℕ → Result Plan Refusal
adjust_plan m wallet entire account change bound =
    outcome (first_refusal (adjust_rules m wallet entire account change bound)) (adjusting_terms m
    (or_nothing entire) change)

-- ---- close

-- LUSD that is repaid and collateral that is returned, of a trove that has these entire amounts
abbrev pub closing_terms : ℕ × ℕ → ℕ × ℕ
closing_terms had = (had.1 - RESERVE, had.0)

abbrev pub close_rules : Market → Wallet → Option (ℕ × ℕ) → ℕ → List Rule
close_rules m wallet entire account =
    let had = or_nothing entire in
    (is_none entire, NoTrove account)
    ∷ last_trove_stays m
    ∷ recovery_forbids m
    ∷ where_short (closing_terms had).0 wallet.lusd ShortTokens
    ∷ system_ratio_low m (m.total_coll - had.0) (m.total_debt - had.1)
    ∷ []

abbrev pub close_plan : Market → Wallet → Option (ℕ × ℕ) → ℕ → Result (ℕ × ℕ) Refusal
close_plan m wallet entire account =
    outcome (first_refusal (close_rules m wallet entire account))
    (closing_terms (or_nothing entire))

-- ---- a gain that moves into the trove

-- the gain is no borrowing: there is no fee, and the base rate stays
abbrev pub gaining_terms : Market → ℕ × ℕ → ℕ → Plan
gaining_terms m had gain = record { coll = had.0 + gain; debt = had.1; fee = 0; rate = rate_kept m }

abbrev pub gain_rules : Market → Option (ℕ × ℕ) → ℕ → ℕ → List Rule
gain_rules m entire account gain =
    let terms = gaining_terms m (or_nothing entire) gain in
    (is_none entire, NoTrove account)
    ∷ (gain == 0, NoGain account)
    ∷ only_where (is_normal m) (ratio_low m MCR terms.coll terms.debt)
    ∷ []

abbrev pub gain_plan : Market → Option (ℕ × ℕ) → ℕ → ℕ → Result Plan Refusal
gain_plan m entire account gain =
    outcome (first_refusal (gain_rules m entire account gain))
    (gaining_terms m (or_nothing entire) gain)
