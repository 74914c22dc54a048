-- Troves that are liquidated one after the other: each at its moment, what is kept of a state
-- meanwhile, and what is told of them.
use Rattle.std.specs.Prelude.{◌≡◌, ℕ, ◌+◌, ◌-◌, ◌≤◌, ◌*◌, ◌^◌, ◌==◌, IsTrue, Option, Some, None, Ok, List, [], ◌∷◌, if◌then◌else◌}
use Rattle.liq_types.specs.declared.amounts.TheConstants.{LIM, OFFSET_MOST, SUM_MOST}
use Rattle.liq_types.specs.declared.events.ListChange.{ListChange}
use Rattle.liq_types.specs.declared.events.ListChange.TheVariants.{Words}
use Rattle.liq_types.specs.declared.events.PoolEvent.{PoolEvent}
use Rattle.liq_types.specs.declared.events.PoolEvent.TheVariants.{Offset}
use Rattle.liq_types.specs.declared.figures.Wallet.{Wallet}
use Rattle.liq_types.specs.Product.{rise_of}
use Rattle.liq_types.specs.Soundness.{is_product, is_sum_beside}
use Rattle.liq_types.specs.State.{State}
use Rattle.liq_types.specs.Totals.{stakes_of, total_coll}
use Rattle.liq_tables.specs.WithRoom.{WithRoom}
use Rattle.liq_ledger.specs.declared.pools.Pools.{Pools}
use Rattle.liq_troves.specs.Kept as troves
use Rattle.liq_troves.specs.Rows.{sum_after}
use Rattle.liq_troves.specs.StakeSums.{sums_now, sums_words, trove_rows}
use Rattle.liq_order.specs.Listed.{Listed}
use Rattle.liq_order.specs.Order.{trove_order}
use Rattle.liq_stability.specs.Kept as stability
use Rattle.liq_stability.specs.Kept.{IsPoolOf}
use Rattle.liq_stability.specs.declared.words.PoolWords.{PoolWords}
use Rattle.liq_stability.specs.Words.{pool_words, offset_in}
use Rattle.liq_liquidation.specs.declared.one.One.{One}
use Rattle.liq_liquidation.specs.declared.one.Victim.{Victim}
use Rattle.liq_liquidation.specs.Applied.{words_left}
use Rattle.liq_liquidation.specs.One.{one, liquidated}
use Rattle.liq_core_lowest.specs.declared.course.Course.{Course}
use Rattle.liq_trove_moves.specs.Books.{pools_of}

-- each may be liquidated after those before it
abbrev pub AreVictims : State → ℕ → List Victim → Type 0
AreVictims s liquidator [] = Unit {0}
AreVictims s liquidator (v ∷ vs) = (one s v.account ≡ Ok v.one)
    × AreVictims (liquidated s liquidator v) liquidator vs

-- ---- what is kept of a state

-- the parts that liquidations change are a state's
pub record AreKept (s : State) (wallets : WithRoom Wallet) (pools : Pools) (surplus : WithRoom ℕ)
    (troves : troves.Kept) (order : Listed) (pool : stability.Kept) : Type 0 where
  pub wallets_are : wallets.rows ≡ s.wallets
  pub pools_are : pools ≡ pools_of s
  pub owners_are : surplus.rows ≡ s.surplus_rows
  pub sums_are : troves.sums ≡ sums_words s
  pub troves_are : troves.table.rows ≡ trove_rows s
  pub order_is : order.entries ≡ trove_order s
  pub pool_is : IsPoolOf s pool

-- ---- what is told of them

-- what a state has of that from which it is told
abbrev pub course_of : State → Course
course_of s = record {
  words = pool_words s;
  stakes = stakes_of s;
  coll = total_coll s;
  sum_debt = (sums_now s).debt;
}

-- what the Stability Pool takes over, if anything
abbrev pub offset_told : PoolWords → One → Option PoolEvent
offset_told words one =
    if one.offset_debt == 0
    then None
    else Some (Offset one.offset_debt one.offset_coll words.total
    (rise_of words.p (offset_in words one.offset_debt one.offset_coll)))

-- one event or none
abbrev pub told_of : Option PoolEvent → List PoolEvent
told_of None = []
told_of (Some event) = event ∷ []

-- the course behind the liquidation of a trove with this stake
abbrev pub course_after : Course → ℕ → One → Course
course_after c stake one =
    let stakes = c.stakes - stake in
    record {
      words = words_left c.words one;
      stakes = stakes;
      coll = c.coll - (one.gas + one.offset_coll + one.surplus);
      sum_debt = sum_after c.sum_debt one.spread_debt stakes;
    }

-- the words from which later keys are made
abbrev pub course_words : Course → ListChange
course_words c = Words c.stakes c.coll c.sum_debt

-- what holds of a course and of the next trove on it
pub record IsNext (c : Course) (one : One) : Type 0 where
  pub product : IsTrue (is_product c.words.p)
  pub sum : IsTrue (is_sum_beside c.words.sum c.words.p)
  pub total : c.words.total ≤ LIM
  pub scale : c.words.scale ≤ 2 ^ 64 - 4
  pub epoch : c.words.epoch ≤ 2 ^ 64 - 4
  pub served : one.offset_debt ≤ c.words.total
  pub worth : one.offset_coll ≤ OFFSET_MOST * one.offset_debt
  pub limit : c.words.coll + one.offset_coll ≤ LIM
  pub coll : one.gas + one.offset_coll + one.surplus ≤ c.coll
  pub sum_debt : c.sum_debt ≤ SUM_MOST
