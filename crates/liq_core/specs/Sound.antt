-- What a protocol keeps, and what holds of every protocol.
use Rattle.std.specs.Prelude.{◌≡◌, IsTrue}
use Rattle.liq_types.specs.declared.figures.Client.{Client}
use Rattle.liq_types.specs.Soundness.{IsClientRow, IsSoundImage, is_sound_client}
use Rattle.liq_order.specs.Order.{order_by}
use Rattle.liq_core.specs.declared.engine.Protocol.TheInside.{Inside}
use Rattle.liq_core.specs.Core.{Core}

abbrev pub core_of : Inside → Core
core_of p =
    record {
      image = record {
        price = p.price;
        minute = p.minute;
        base = p.rate.base;
        fee_minute = p.rate.minute;
        generation = p.generation;
        limit = p.limit;
        brought = p.brought;
        active_coll = p.pools.active_coll;
        active_debt = p.pools.active_debt;
        default_coll = p.pools.default_coll;
        default_debt = p.pools.default_debt;
        reserve = p.pools.reserve;
        surplus = p.pools.surplus;
        fee_coll = p.pools.fee_coll;
        fee_lusd = p.pools.fee_lusd;
        sum_coll = p.troves.sums.coll;
        sum_debt = p.troves.sums.debt;
        stakes = p.troves.sums.stakes;
        snap_stakes = p.troves.sums.snap_stakes;
        snap_coll = p.troves.sums.snap_coll;
        p = p.pool.words.p;
        scale = p.pool.words.scale;
        epoch = p.pool.words.epoch;
        sum = p.pool.words.sum;
        total = p.pool.words.total;
        pool_coll = p.pool.words.coll;
        wallets = p.wallets.rows;
        troves = p.troves.table.rows;
        surplus_rows = p.surplus.rows;
        finished = p.pool.finished;
        deposits = p.pool.deposits.rows;
        clients = p.clients.rows;
      };
      records = p.records;
      list = p.order.entries;
      room = record {
        wallets = p.wallets.room;
        troves = p.troves.table.room;
        surplus = p.surplus.room;
        deposits = p.pool.deposits.room;
        clients = p.clients.room;
        list = p.order.room;
        finished = p.pool.spare;
      };
    }

pub record IsSound (p : Inside) : Type 0 where
  -- the image meets all rules of an image, beside its records, and its tables are in form
  pub image : IsSoundImage (core_of p).image p.records
  -- the list has exactly the troves, in their order
  pub order : p.order.entries ≡ order_by p.troves.table.rows

-- a client's row as a sound image has it
pub record IsKeptRow (c : Client) : Type 0 where
  pub form : IsClientRow c
  pub shown : IsTrue (is_sound_client c)
