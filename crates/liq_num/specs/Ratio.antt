-- A ratio is a pair of collateral and debt; ratios are compared by cross products, which are exact.
use Rattle.std.specs.Prelude.{ℕ, ◌*◌, ◌<◌}
use Rattle.std.specs.Ordering.{nat_cmp}
use Rattle.std.specs.declared.cmp.Ordering.{Ordering}
use Rattle.liq_num.specs.declared.ratio.TheConstants.{GWEI_PER_ETH}

-- how the fraction c1 / d1 compares with the fraction c2 / d2
abbrev pub ratio_order : ℕ → ℕ → ℕ → ℕ → Ordering
ratio_order c1 d1 c2 d2 = nat_cmp (c1 * d2) (c2 * d1)

-- the fraction c1 / d1 is below the fraction c2 / d2
abbrev pub IsBelow : ℕ → ℕ → ℕ → ℕ → Type 0
IsBelow c1 d1 c2 d2 = c1 * d2 < c2 * d1

-- at this price the collateral is worth less than so many percent of the debt
abbrev pub IsBelowPercent : ℕ → ℕ → ℕ → ℕ → Type 0
IsBelowPercent coll debt price percent = coll * price * 100 < percent * debt * GWEI_PER_ETH
