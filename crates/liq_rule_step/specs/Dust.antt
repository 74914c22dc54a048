-- Dust: what rounding leaves in the pools beyond all that is owed from them.
use Rattle.std.specs.Prelude.{ℤ, pos, ◌-ℤ◌, ◌≤ℤ◌, map, sum, sum_by}
use Rattle.std.specs.Map.{keys_of, values_of}
use Rattle.liq_types.specs.State.{State}
use Rattle.liq_types.specs.Totals.{pool_total, pool_coll}
use Rattle.liq_troves.specs.StakeSums.{pending_coll, pending_debt}
use Rattle.liq_stability.specs.Position.{balance_of, gain_of}

pub record Dust : Type 0 where
  pub pool_total : ℤ
  pub pool_coll : ℤ
  pub default_coll : ℤ
  pub default_debt : ℤ

abbrev pub dust : State → Dust
dust s =
    record {
      pool_total = pos (pool_total s) -ℤ pos (sum (map (balance_of s) (keys_of s.deposits)));
      pool_coll = pos (pool_coll s) -ℤ pos (sum (map (gain_of s) (keys_of s.deposits)));
      default_coll = pos s.default_coll -ℤ pos (sum_by (pending_coll s) (values_of s.troves));
      default_debt = pos s.default_debt -ℤ pos (sum_by (pending_debt s) (values_of s.troves));
    }

-- dust is never negative
pub record IsCovered (d : Dust) : Type 0 where
  pub pool_total : pos 0 ≤ℤ d.pool_total
  pub pool_coll : pos 0 ≤ℤ d.pool_coll
  pub default_coll : pos 0 ≤ℤ d.default_coll
  pub default_debt : pos 0 ≤ℤ d.default_debt
