-- The tables of an image in which nothing but clients has rows.
use Rattle.std.proofs.Common.{[]}
use Rattle.std.specs.List.{AllByRecursion}
use Rattle.std.specs.List.Sorted.{IsStrictlySortedBy}
use Rattle.std.specs.Map.{values_of}
use Rattle.liq_types.specs.declared.figures.Client.{Client}
use Rattle.liq_types.specs.Image.{Image}
use Rattle.liq_types.specs.Soundness.{HasTables, IsClientRow}
use Rattle.liq_types.specs.Tables.{Table}
use Rattle.liq_types.specs.WellFormed.{Ascends}

pub clients_alone : (i : Image) (rows : Table Client) → Ascends rows → AllByRecursion IsClientRow (values_of rows)
    → HasTables (record i {
      wallets = [];
      troves = [];
      surplus_rows = [];
      finished = [];
      deposits = [];
      clients = rows;
    })
unfolding IsStrictlySortedBy
clients_alone i rows ascends are =
    record {
      wallets = tt;
      used_wallets = tt;
      troves = tt;
      surplus = tt;
      some_surplus = tt;
      finished = tt;
      some_finished = tt;
      deposits = tt;
      some_deposits = tt;
      clients = ascends;
      client_rows = are;
    }
