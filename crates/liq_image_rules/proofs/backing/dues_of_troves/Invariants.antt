use Rattle.std.proofs.Common.{◌≡◌, map, take}
use Rattle.std.specs.Prelude.{sum_by}
use Rattle.std.specs.Map.{values_of}
use Rattle.liq_types.specs.ImageRows.{trove_row}
use Rattle.liq_types.specs.Soundness.{coll_due, debt_due}
use Rattle.liq_image_rows.specs.Capped.{capped}
use Rattle.liq_image_rules.proofs.backing.dues_of_troves.Given as goal

abbrev pub invariant-loop-row : goal.invariant-loop-row
invariant-loop-row l = record {
  coll : l.coll ≡ capped (sum_by (coll_due l.sum_coll) (values_of (map trove_row (take l.row-index l.rows))));
  debt : l.debt ≡ capped (sum_by (debt_due l.sum_debt) (values_of (map trove_row (take l.row-index l.rows))));
}
