use Rattle.std.proofs.Common.{◌≡◌, drop, map}
use Rattle.std.specs.Prelude.{unwrap_or}
use Rattle.std.specs.Map.{lookup}
use Rattle.liq_types.specs.ImageRows.{finished_row}
use Rattle.liq_types.specs.Product.{is_place}
use Rattle.liq_image_rows.proofs.finished.first.Given as goal

abbrev pub invariant-loop-row : goal.invariant-loop-row
invariant-loop-row l =
    unwrap_or (lookup (is_place (l.epoch, l.scale)) (map finished_row (drop l.row-index l.finished))) 0
    ≡ unwrap_or (lookup (is_place (l.epoch, l.scale)) (map finished_row l.finished)) 0
