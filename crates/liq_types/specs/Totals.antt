-- Totals and the mode, and what the rules on troves read of a state.
use Rattle.std.specs.Prelude.{ℕ, ◌+◌, ◌-◌, ◌*◌, Bool, not, nat_lt, nat_le, length, sum_by, Option, unwrap_or}
use Rattle.std.specs.Map.{values_of}
use Rattle.liq_num.specs.declared.ratio.TheConstants.{GWEI_PER_ETH}
use Rattle.liq_types.specs.declared.amounts.TheConstants.{CCR}
use Rattle.liq_types.specs.declared.figures.Market.{Market}
use Rattle.liq_types.specs.State.{State, TroveEntry, PoolOffset}

-- ---- ratios

-- The two sides of the comparison of a ratio with so many percent: the collateral's worth, and what
-- the debt asks for.
abbrev pub worth : ℕ → ℕ → ℕ
worth coll price = coll * price * 100

abbrev pub asked : ℕ → ℕ → ℕ
asked percent debt = percent * debt * GWEI_PER_ETH

abbrev pub is_below_percent : ℕ → ℕ → ℕ → ℕ → Bool
is_below_percent coll debt price percent = nat_lt (worth coll price) (asked percent debt)

abbrev pub is_at_most_whole : ℕ → ℕ → ℕ → Bool
is_at_most_whole coll debt price = nat_le (coll * price) (debt * GWEI_PER_ETH)

-- the first ratio of collateral to debt is below the second
abbrev pub is_ratio_below : ℕ → ℕ → ℕ → ℕ → Bool
is_ratio_below c1 d1 c2 d2 = nat_lt (c1 * d2) (c2 * d1)

-- entire collateral and debt of a trove; an account without one is taken to have nothing, once that
-- is refused
abbrev pub or_nothing : Option (ℕ × ℕ) → ℕ × ℕ
or_nothing entire = unwrap_or entire (0, 0)

-- ---- totals

abbrev pub total_coll : State → ℕ
total_coll s = s.active_coll + s.default_coll

abbrev pub total_debt : State → ℕ
total_debt s = s.active_debt + s.default_debt

abbrev pub trove_count : State → ℕ
trove_count s = length s.troves

abbrev pub stakes_of : State → ℕ
stakes_of s = sum_by (λ (t : TroveEntry). t.stake) (values_of s.troves)

-- LUSD in the Stability Pool: what was put in, less what was paid out and what offsets took
abbrev pub pool_total : State → ℕ
pool_total s = s.start.total + s.provided - s.withdrawn - sum_by (λ (o : PoolOffset). o.debt)
    s.offsets

-- collateral in the Stability Pool: what offsets brought, less the gains that were paid
abbrev pub pool_coll : State → ℕ
pool_coll s = s.start.pool_coll + sum_by (λ (o : PoolOffset). o.coll) s.offsets - s.gains_paid

abbrev pub market_of : State → Market
market_of s =
    record {
      price = s.price;
      minute = s.minute;
      base = s.base;
      fee_minute = s.fee_minute;
      limit = s.limit;
      total_coll = total_coll s;
      total_debt = total_debt s;
      troves = trove_count s;
    }

-- the most collateral inside, and the most LUSD
abbrev pub limit_of : Market → ℕ
limit_of m = m.limit

-- ---- the mode

-- Recovery Mode: all collateral is worth less than the critical ratio of all debt
abbrev pub is_recovery : Market → Bool
is_recovery m = is_below_percent m.total_coll m.total_debt m.price CCR

abbrev pub is_normal : Market → Bool
is_normal m = not (is_recovery m)
