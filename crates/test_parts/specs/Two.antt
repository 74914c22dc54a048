-- The two troves of the rows as they are kept.
use Rattle.std.specs.Prelude.{List, [], ◌∷◌, pos}
use Rattle.liq_types.specs.declared.figures.Trove.{Trove}
use Rattle.liq_types.specs.Ranked.{Ranked}
use Rattle.liq_types.specs.Tables.{Table}
use Rattle.liq_troves.specs.declared.sums.Sums.{Sums}

abbrev pub two_rows : Table Trove
two_rows = (
  1,
  record {
    coll = 8440000000;
    debt = 4220000000;
    stake = 8440000000;
    mark_coll = 0;
    mark_debt = 0;
  },
)
    ∷ (
      2,
      record {
        coll = 12660000000;
        debt = 4220000000;
        stake = 12660000000;
        mark_coll = 0;
        mark_debt = 0;
      },
    )
    ∷ []

abbrev pub two_sums : Sums
two_sums = record { coll = 0; debt = 0; stakes = 21100000000; snap_stakes = 0; snap_coll = 0 }

abbrev pub two_order : List Ranked
two_order = (pos 333333333333333333, 2) ∷ (pos 500000000000000000, 1) ∷ []
