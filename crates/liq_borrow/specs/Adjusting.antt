-- The rules of a change in the groups in which they are tested: with a fee, and of a trove with
-- these entire amounts.
use Rattle.std.specs.Prelude.{ℕ, ◌+◌, ◌-◌, ◌*◌, ◌&&◌, ◌||◌, nat_lt, List, [], ◌∷◌}
use Rattle.liq_types.specs.declared.amounts.TheConstants.{RESERVE, MIN_NET}
use Rattle.liq_types.specs.declared.figures.Market.{Market}
use Rattle.liq_types.specs.declared.figures.Wallet.{Wallet}
use Rattle.liq_types.specs.declared.replies.Refusal.TheVariants.{AmountLimit, ShortCollateral, ShortTokens, NetDebtLow, RatioFalls, NoChange}
use Rattle.liq_types.specs.Rules.{Rule, where_below, where_short, where_above, only_where}
use Rattle.liq_types.specs.Totals.{is_recovery, is_normal, limit_of}
use Rattle.liq_rate.specs.Bound.{fee_bound, fee_over}
use Rattle.liq_borrow.specs.declared.change.Change.{Change}
use Rattle.liq_borrow.specs.Borrowing.{least_bound, least_ratio, ratio_low, system_ratio_low, recovery_forbids, both_ways, is_no_change}

-- the rules on what the owner asks, whatever the trove has
abbrev pub asked_rules : Market → Change → ℕ → ℕ → List Rule
asked_rules m change fee bound =
    only_where (nat_lt 0 change.borrow) (fee_bound bound (least_bound m))
    ∷ both_ways change.coll_in change.coll_out
    ∷ both_ways change.borrow change.repay
    ∷ (is_no_change change, NoChange)
    ∷ only_where (nat_lt 0 change.coll_out) (recovery_forbids m)
    ∷ fee_over fee change.borrow bound
    ∷ []

-- the rules on what the wallet and the trove have, and on all debt
abbrev pub held_rules : Market → Wallet → ℕ × ℕ → Change → ℕ → List Rule
held_rules m wallet had change fee =
    where_short change.coll_in wallet.coll ShortCollateral
    ∷ where_short change.coll_out had.0 ShortCollateral
    ∷ where_short change.repay wallet.lusd ShortTokens
    ∷ only_where (nat_lt 0 change.repay) (where_below (had.1 - RESERVE - change.repay) MIN_NET
    NetDebtLow)
    ∷ where_above (m.total_debt + change.borrow + fee) (limit_of m) AmountLimit
    ∷ []

-- the collateral and the debt that are left
abbrev pub left_with : ℕ × ℕ → Change → ℕ → ℕ × ℕ
left_with had change fee = (
  had.0 + change.coll_in - change.coll_out,
  had.1 + change.borrow + fee
      - change.repay,
)

-- the rules on the ratios, where the trove had `had` and is left with `left`
abbrev pub ratio_rules : Market → Change → ℕ → ℕ × ℕ → ℕ × ℕ → List Rule
ratio_rules m change fee had left =
    only_where (is_normal m || nat_lt 0 change.borrow) (ratio_low m (least_ratio m) left.0 left.1)
    ∷ only_where (is_recovery m && nat_lt 0 change.borrow) (where_below (left.0 * had.1)
    (had.0 * left.1) RatioFalls)
    ∷ system_ratio_low m (m.total_coll + change.coll_in - change.coll_out) (m.total_debt
    + change.borrow + fee - change.repay)
    ∷ []
