-- What holds of what the calls are given, in every sound state.
use Rattle.std.specs.Prelude.{◌≤◌, ◌<◌, ◌^◌}
use Rattle.liq_types.specs.declared.amounts.TheConstants.{PRICE_MOST, SUM_MOST}
use Rattle.liq_types.specs.declared.figures.Market.{Market}
use Rattle.liq_types.specs.declared.figures.Trove.{Trove}
use Rattle.liq_troves.specs.declared.sums.Sums.{Sums}
use Rattle.liq_troves.specs.Rows.{entire_by}
use Rattle.liq_liquidation.specs.declared.figures.Figures.{Figures}

pub record IsMarket (m : Market) : Type 0 where
  pub price_some : 1 ≤ m.price
  pub price_most : m.price ≤ PRICE_MOST

-- a trove of a market, by the sums of all its troves
pub record IsTroveOf (m : Market) (sums : Sums) (t : Trove) : Type 0 where
  pub mark_coll : t.mark_coll ≤ sums.coll
  pub mark_debt : t.mark_debt ≤ sums.debt
  pub sum_coll : sums.coll ≤ SUM_MOST
  pub sum_debt : sums.debt ≤ SUM_MOST
  pub coll : (entire_by sums t).0 < 2 ^ 64
  pub debt : (entire_by sums t).1 < 2 ^ 64
  -- where there are other troves they have some stake
  pub others : 2 ≤ m.troves → t.stake < sums.stakes

-- a trove on the way of a liquidation, whose entire amounts are within the totals
pub record IsStruckOf (f : Figures) (t : Trove) : Type 0 where
  pub trove : IsTroveOf f.market f.sums t
  pub coll : (entire_by f.sums t).0 ≤ f.market.total_coll
  pub debt : (entire_by f.sums t).1 ≤ f.market.total_debt
