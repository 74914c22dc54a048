-- Small worlds: two or three troves, of the accounts from 1 on, as their owners opened them.
use Rattle.std.specs.Prelude.{◌≡◌, ℕ, ◌≤◌, ◌^◌, []}
use Rattle.liq_types.specs.declared.figures.Trove.{Trove}
use Rattle.liq_types.specs.declared.figures.Wallet.{Wallet}
use Rattle.liq_types.specs.Tables.{Table}
use Rattle.liq_tables.specs.WithRoom.{WithRoom, HasRoom}
use Rattle.liq_ledger.specs.declared.pools.Pools.{Pools}
use Rattle.liq_stability.specs.Kept as stability
use Rattle.liq_troves.specs.declared.sums.Sums.{Sums}
use Rattle.liq_troves.specs.Kept.{Kept}
use Rattle.liq_order.specs.Listed.{Listed}
use Rattle.liq_order.specs.Order.{order_by}

-- nothing is pending
abbrev pub fresh : ℕ × ℕ → Trove
fresh own = record { coll = own.0; debt = own.1; stake = own.0; mark_coll = 0; mark_debt = 0 }

abbrev pub fresh_sums : ℕ → Sums
fresh_sums stakes = record { coll = 0; debt = 0; stakes = stakes; snap_stakes = 0; snap_coll = 0 }

pub record AreFresh (troves : Kept) (order : Listed) (rows : Table Trove) (stakes : ℕ) :
    Type 0 where
  pub rows_are : troves.table.rows ≡ rows
  pub sums_are : troves.sums ≡ fresh_sums stakes
  pub order_is : order.entries ≡ order_by rows

-- amounts that leave room for sums of some of them
pub record IsSmall (own : ℕ × ℕ) : Type 0 where
  pub some : 1 ≤ own.0
  pub coll : own.0 ≤ 10 ^ 12
  pub least : 2000000000 ≤ own.1
  pub debt : own.1 ≤ 10 ^ 12

-- the pools of two troves
abbrev pub opened_pools : Pools
opened_pools = record {
  active_coll = 21100000000;
  active_debt = 8440000000;
  default_coll = 0;
  default_debt = 0;
  reserve = 400000000;
  surplus = 0;
  fee_coll = 0;
  fee_lusd = 40000000;
}

-- What the call writes beside the troves, before it: nobody has anything but a depositor, and there
-- is room.
pub record AreOpened (wallets : WithRoom Wallet) (pools : Pools) (surplus : WithRoom ℕ)
    (pool : stability.Kept) : Type 0 where
  pub wallets_are : wallets.rows ≡ []
  pub liquidator : HasRoom wallets 3
  pub surplus_is : surplus.rows ≡ []
  pub owner : HasRoom surplus 1
  pub pools_are : pools ≡ opened_pools
  pub coll : pool.words.coll ≡ 0
  pub scale : pool.words.scale ≡ 0
  pub epoch : pool.words.epoch ≡ 0
  pub room : 1 ≤ pool.spare
