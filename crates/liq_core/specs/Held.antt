-- What holds of the pools, the troves and the list that every protocol has.
use Rattle.std.specs.Prelude.{◌≡◌, ◌+◌, ◌≤◌}
use Rattle.liq_types.specs.declared.amounts.TheConstants.{LIM}
use Rattle.liq_ledger.specs.declared.pools.Pools.{Pools}
use Rattle.liq_troves.specs.Kept.{Kept}
use Rattle.liq_troves.specs.Standing.{TrovesStand}
use Rattle.liq_order.specs.Listed.{Listed}
use Rattle.liq_order.specs.Order.{order_by}
use Rattle.liq_trove_moves.specs.Books.{books_kept}

-- the troves stand beside the pools, the list is theirs, and what they have is within the limit
pub record AreHeld (pools : Pools) (troves : Kept) (order : Listed) : Type 0 where
  pub stand : TrovesStand (books_kept troves pools)
  pub list : order.entries ≡ order_by troves.table.rows
  pub coll : pools.active_coll + pools.default_coll ≤ LIM
  pub debt : pools.active_debt + pools.default_debt ≤ LIM
