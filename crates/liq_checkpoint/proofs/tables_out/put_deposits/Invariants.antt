use Rattle.std.proofs.Common.{◌∷◌, length, map, take}
use Rattle.std.specs.List.{flat_map}
use Rattle.liq_types.specs.ImageRows.{deposit_row}
use Rattle.liq_checkpoint.specs.Spelling.{Puts, deposit}
use Rattle.liq_checkpoint.proofs.tables_out.put_deposits.Given as goal

abbrev pub invariant-loop-row : goal.invariant-loop-row
invariant-loop-row l = Puts l.fn.out.items l.out.items ((8, length l.rows)
    ∷ flat_map deposit (map deposit_row (take l.row-index l.rows)))
