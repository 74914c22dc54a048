-- A view, by its list and the words from which keys are made.
use Rattle.std.specs.Prelude.{List}
use Rattle.liq_types.specs.Ranked.{Ranked}
use Rattle.liq_types.specs.Views.{View}
use Rattle.liq_list_version.specs.declared.words.Words.{Words}

abbrev pub seen : List Ranked → Words → View
seen list w = record {
  list = list;
  snap_stakes = w.snap_stakes;
  snap_coll = w.snap_coll;
  sum_debt = w.sum_debt;
}
