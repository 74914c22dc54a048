-- The books of the troves beside the pools, as they are kept.
use Rattle.std.specs.Prelude.{◌≡◌}
use Rattle.liq_types.specs.declared.figures.Trove.{Trove}
use Rattle.liq_types.specs.State.{State}
use Rattle.liq_types.specs.Tables.{Table}
use Rattle.liq_ledger.specs.declared.pools.Pools.{Pools}
use Rattle.liq_troves.specs.declared.sums.Sums.{Sums}
use Rattle.liq_troves.specs.Kept.{Kept}
use Rattle.liq_troves.specs.Standing.{Books}

-- these troves and sums, beside the two pools that hold what the troves have
abbrev pub books_with : Sums → Table Trove → Pools → Books
books_with sums troves pools =
    record {
      sums = sums;
      troves = troves;
      active_coll = pools.active_coll;
      active_debt = pools.active_debt;
      default_coll = pools.default_coll;
      default_debt = pools.default_debt;
    }

abbrev pub books_kept : Kept → Pools → Books
books_kept kept pools = books_with kept.sums kept.table.rows pools

-- the pools with what these books have in them, and the other pools as they were
abbrev pub pools_with : Pools → Books → Pools
pools_with pools b =
    record pools {
      active_coll = b.active_coll;
      active_debt = b.active_debt;
      default_coll = b.default_coll;
      default_debt = b.default_debt;
    }

-- the other pools stay
pub record SameOthers (old new : Pools) : Type 0 where
  pub reserve : new.reserve ≡ old.reserve
  pub surplus : new.surplus ≡ old.surplus
  pub fee_coll : new.fee_coll ≡ old.fee_coll
  pub fee_lusd : new.fee_lusd ≡ old.fee_lusd

-- ---- in a state

abbrev pub pools_of : State → Pools
pools_of s =
    record {
      reserve = s.reserve;
      surplus = s.surplus;
      fee_coll = s.fee_coll;
      fee_lusd = s.fee_lusd;
      active_coll = s.active_coll;
      active_debt = s.active_debt;
      default_coll = s.default_coll;
      default_debt = s.default_debt;
    }
