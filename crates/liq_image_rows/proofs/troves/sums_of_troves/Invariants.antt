use Rattle.std.proofs.Common.{◌≡◌, map, take}
use Rattle.std.specs.Prelude.{sum_by}
use Rattle.std.specs.Map.{values_of}
use Rattle.liq_types.specs.ImageRows.{trove_row}
use Rattle.liq_types.specs.declared.figures.Trove.{Trove}
use Rattle.liq_image_rows.specs.Capped.{capped}
use Rattle.liq_image_rows.proofs.troves.sums_of_troves.Given as goal

abbrev pub invariant-loop-row : goal.invariant-loop-row
invariant-loop-row l = record {
  stakes : l.stakes ≡ capped (sum_by (λ (t : Trove). t.stake) (values_of (map trove_row (take l.row-index l.rows))));
  coll : l.coll ≡ capped (sum_by (λ (t : Trove). t.coll) (values_of (map trove_row (take l.row-index l.rows))));
  debt : l.debt ≡ capped (sum_by (λ (t : Trove). t.debt) (values_of (map trove_row (take l.row-index l.rows))));
}
