use Rattle.std.proofs.Common.{◌∷◌, length, map, take}
use Rattle.std.specs.List.{flat_map}
use Rattle.liq_types.specs.ImageRows.{trove_row}
use Rattle.liq_checkpoint.specs.Spelling.{Puts, trove}
use Rattle.liq_checkpoint.proofs.tables_out.put_troves.Given as goal

abbrev pub invariant-loop-row : goal.invariant-loop-row
invariant-loop-row l = Puts l.fn.out.items l.out.items ((8, length l.rows)
    ∷ flat_map trove (map trove_row (take l.row-index l.rows)))
