use Rattle.std.proofs.Common.{◌∷◌, [], length}
use Rattle.liq_types.specs.ImageRows.{deposit_row}
use Rattle.liq_checkpoint.specs.Spelling.{deposit}
use Rattle.liq_checkpoint.proofs.Putting.{row_more, all_rows}
use Rattle.liq_checkpoint.proofs.tables_out.put_deposits.Goals as goal

pub loop-row-preserved : goal.loop-row-preserved
loop-row-preserved c = row_more deposit_row deposit ((8, length c.rows-rows.result.now) ∷ []) c.args.out.now.items
    c.loop-row.out.items c.put_deposit.new.out.items c.rows-rows.result.now c.loop-row.row-index _ c.loop-row-test.true
    c.loop-row.invariant c.in_ok-put_deposit.ensures

pub returns : goal.returns
returns c = rw c.rows-rows.ensures at (all_rows deposit_row deposit c.args.out.now.items c.loop-row.out.items
    c.rows-rows.result.now c.loop-row.row-index c.loop-row-test.false c.loop-row.invariant)
