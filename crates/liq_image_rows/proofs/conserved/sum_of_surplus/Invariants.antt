use Rattle.std.proofs.Common.{◌≡◌, map, take}
use Rattle.std.specs.Prelude.{sum}
use Rattle.std.specs.Map.{values_of}
use Rattle.liq_types.specs.ImageRows.{surplus_row}
use Rattle.liq_image_rows.specs.Capped.{capped}
use Rattle.liq_image_rows.proofs.conserved.sum_of_surplus.Given as goal

abbrev pub invariant-loop-row : goal.invariant-loop-row
invariant-loop-row l = l.coll ≡ capped (sum (values_of (map surplus_row (take l.row-index l.rows))))
