-- The image of a state: words and tables, as the lists have made them. States with one image and as
-- many records count as the same, whatever their lists were.
use Rattle.std.specs.Prelude.{◌≡◌}
use Rattle.liq_types.specs.declared.image.Image.{Image}
use Rattle.liq_types.specs.Product.{sumat, place_of, finished_sums}
use Rattle.liq_types.specs.State.{State}
use Rattle.liq_types.specs.Tables.{map_rows}
use Rattle.liq_types.specs.Totals.{stakes_of, pool_total, pool_coll}
use Rattle.liq_troves.specs.StakeSums.{sums_now, trove_row}
use Rattle.liq_stability.specs.Position.{words_of, deposit_row}

abbrev pub image : State → Image
image s =
    record {
      price = s.price;
      minute = s.minute;
      base = s.base;
      fee_minute = s.fee_minute;
      generation = s.generation;
      limit = s.limit;
      brought = s.brought;
      active_coll = s.active_coll;
      active_debt = s.active_debt;
      default_coll = s.default_coll;
      default_debt = s.default_debt;
      reserve = s.reserve;
      surplus = s.surplus;
      fee_coll = s.fee_coll;
      fee_lusd = s.fee_lusd;
      sum_coll = (sums_now s).coll;
      sum_debt = (sums_now s).debt;
      stakes = stakes_of s;
      snap_stakes = s.snap_stakes;
      snap_coll = s.snap_coll;
      p = (words_of s).p;
      scale = (words_of s).scale;
      epoch = (words_of s).epoch;
      sum = sumat s.start s.offsets (place_of (words_of s));
      total = pool_total s;
      pool_coll = pool_coll s;
      wallets = s.wallets;
      troves = map_rows (trove_row s) s.troves;
      surplus_rows = s.surplus_rows;
      finished = finished_sums s.start s.offsets;
      deposits = map_rows (deposit_row s) s.deposits;
      clients = s.clients;
    }

pub record IsSameState (s t : State) : Type 0 where
  pub image : image s ≡ image t
  pub records : s.records ≡ t.records
