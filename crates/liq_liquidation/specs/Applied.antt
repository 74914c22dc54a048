-- A planned liquidation on what is kept: on what it was planned, what must have room, and what it
-- makes of each part.
use Rattle.std.specs.Prelude.{◌≡◌, ℕ, ◌+◌, ◌-◌, ◌≤◌, ◌^◌, ◌==◌, Option, None, Ok, length, if◌then◌else◌}
use Rattle.liq_types.specs.declared.amounts.TheConstants.{LIM, PRICE_LEAST, RESERVE}
use Rattle.liq_types.specs.declared.figures.Market.{Market}
use Rattle.liq_types.specs.declared.figures.Wallet.{Wallet}
use Rattle.liq_types.specs.Payments.{credited_in, surplus_added_in}
use Rattle.liq_types.specs.State.{State}
use Rattle.liq_types.specs.Tables.{at}
use Rattle.liq_tables.specs.WithRoom.{WithRoom, HasRoom}
use Rattle.liq_ledger.specs.declared.pools.Pools.{Pools}
use Rattle.liq_troves.specs.Standing.{Books, TrovesStand}
pub use Rattle.liq_trove_moves.specs.Books.{books_kept}
use Rattle.liq_stability.specs.Words.{words_after, finished_by}
use Rattle.liq_types.specs.declared.image.FinishedSum.{FinishedSum}
use Rattle.liq_stability.specs.declared.words.PoolWords.{PoolWords}
use Rattle.liq_liquidation.specs.declared.one.One.{One}
use Rattle.liq_liquidation.specs.declared.one.Victim.{Victim}
use Rattle.liq_liquidation.specs.One.{one_in}

-- ---- the state that a liquidation finds

-- the victim was planned on these books, at some price, where the Stability Pool had so much
pub record IsPlannedOn (b : Books) (total : ℕ) (v : Victim) : Type 0 where
  pub stands : TrovesStand b
  pub market : Market
  pub price : PRICE_LEAST ≤ market.price
  pub counted : market.troves ≡ length b.troves
  pub planned : one_in market b.sums total v.account (at b.troves v.account) ≡ Ok v.one

-- in each place that gets some, collateral and LUSD stay within their limit, and the pool's place
-- can be counted on
pub record StayWithin (v : Victim) (wallet : Wallet) (owner : ℕ) (pools : Pools)
    (words : PoolWords) : Type 0 where
  pub coll : pools.active_coll + pools.default_coll ≤ LIM
  pub debt : pools.active_debt + pools.default_debt ≤ LIM
  pub wallet_coll : wallet.coll + v.one.gas ≤ LIM
  pub wallet_lusd : wallet.lusd + RESERVE ≤ LIM
  pub claim : owner + v.one.surplus ≤ LIM
  pub surplus : pools.surplus + v.one.surplus ≤ LIM
  pub pool : words.coll + v.one.offset_coll ≤ LIM
  pub reserve : RESERVE ≤ pools.reserve
  pub scale : words.scale ≤ 2 ^ 64 - 4
  pub epoch : words.epoch ≤ 2 ^ 64 - 4

-- room was made for all that is written
pub record HasRoomFor (v : Victim) (liquidator : ℕ) (wallets : WithRoom Wallet)
    (surplus : WithRoom ℕ) (spare : ℕ) : Type 0 where
  pub wallet : HasRoom wallets liquidator
  pub owner : HasRoom surplus v.account
  -- where the Stability Pool takes over something, for the sum that this may finish
  pub offset : 1 ≤ v.one.offset_debt → 1 ≤ spare

-- ---- what it makes of the pools

-- where the Stability Pool takes over nothing it stays
abbrev pub words_left : PoolWords → One → PoolWords
words_left words one = if one.offset_debt == 0 then words
    else words_after words one.offset_debt one.offset_coll

-- the sum that it finishes, if any
abbrev pub finished_in : PoolWords → One → Option FinishedSum
finished_in words one = if one.offset_debt == 0 then None
    else finished_by words one.offset_debt one.offset_coll

-- the other pools: these books, and what moves beside them
abbrev pub pools_left : Pools → Books → One → Pools
pools_left pools b one =
    record {
      active_coll = b.active_coll;
      active_debt = b.active_debt;
      default_coll = b.default_coll;
      default_debt = b.default_debt;
      reserve = pools.reserve - RESERVE;
      surplus = pools.surplus + one.surplus;
      fee_coll = pools.fee_coll;
      fee_lusd = pools.fee_lusd;
    }

-- ---- in a state

-- what of a state a liquidation changes beside the troves and the Stability Pool, and what stays
pub record AreLeft (s after : State) (liquidator : ℕ) (v : Victim) : Type 0 where
  pub wallets : after.wallets ≡ credited_in s.wallets liquidator v.one.gas RESERVE
  pub reserve : after.reserve ≡ s.reserve - RESERVE
  pub surplus : after.surplus ≡ s.surplus + v.one.surplus
  pub surplus_rows : after.surplus_rows ≡ surplus_added_in s.surplus_rows v.account v.one.surplus
  pub fee_coll : after.fee_coll ≡ s.fee_coll
  pub fee_lusd : after.fee_lusd ≡ s.fee_lusd
  pub deposits : after.deposits ≡ s.deposits
