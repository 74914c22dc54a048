use Rattle.std.proofs.Common.{None}
use Rattle.std.proofs.lemmas.Result.{err_from_is_err_and}
use Rattle.liq_types.specs.ImageRows.{trove_row}
use Rattle.liq_checkpoint.specs.Reading.{rows_at, trove_at}
use Rattle.liq_checkpoint.proofs.Loop.{goes_on, ends, is_done}
use Rattle.liq_checkpoint.proofs.tables.trove_rows.Goals as goal

pub returns-in_err-row : goal.returns-in_err-row
returns-in_err-row c =
    let p = err_from_is_err_and c.from_residual.result c.from_residual.ensures.1 in
    rw (p.1, p.2) (ends (trove_at c.args.end) c.in_err-row.field-0.0 c.loop.rows c.args.count c.loop.counter c.loop.last
    c.loop.rest.now (rows_at (trove_at c.args.end) c.args.count None c.args.at.now) c.loop-test.true
    c.in_err-row.ensures c.loop.invariant)

pub loop-preserved : goal.loop-preserved
loop-preserved c =
    let n = c.in_ok-row.row in
    rw c.in_ok-push.ensures.ok (goes_on (trove_at c.args.end) c.loop.rows c.args.count c.loop.counter c.loop.last
    c.loop.rest.now (trove_row n) c.in_ok-row.after.now (rows_at (trove_at c.args.end) c.args.count None
    c.args.at.now) c.loop-test.true c.in_ok-row.ensures c.loop.invariant)

pub returns : goal.returns
returns c = is_done (trove_at c.args.end) c.loop.rows c.args.count c.loop.counter c.loop.last c.loop.rest.now
    (rows_at (trove_at c.args.end) c.args.count None c.args.at.now) c.loop-test.false c.loop.invariant
