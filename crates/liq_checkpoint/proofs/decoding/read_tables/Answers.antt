use Rattle.std.proofs.lemmas.Result.{err_from_is_err_and}
use Rattle.liq_checkpoint.specs.Reading.{table_at, wallet_at, trove_at, surplus_at, finished_at, deposit_at, client_at}
use Rattle.liq_checkpoint.proofs.Loop.{behind, fails_then}
use Rattle.liq_checkpoint.proofs.decoding.read_tables.Goals as goal

pub returns-in_err-wallets : goal.returns-in_err-wallets
returns-in_err-wallets c =
    let p = err_from_is_err_and c.from_residual.result c.from_residual.ensures.1 in
    rw (p.1, p.2)
    (fails_then c.in_err-wallets.field-0.0 (table_at (wallet_at c.args.end) c.args.end c.args.at.now) _
    c.in_err-wallets.ensures)

pub returns-in_err-troves : goal.returns-in_err-troves
returns-in_err-troves c =
    let p = err_from_is_err_and c.from_residual-in_err-troves.result c.from_residual-in_err-troves.ensures.1 in
    rw (p.1, p.2) (behind _ _ c.in_ok-wallets.ensures
    (fails_then c.in_err-troves.field-0.0 (table_at (trove_at c.args.end) c.args.end c.in_ok-wallets.at.now) _
    c.in_err-troves.ensures))

pub returns-in_err-surplus_rows : goal.returns-in_err-surplus_rows
returns-in_err-surplus_rows c =
    let p = err_from_is_err_and c.from_residual-in_err-surplus_rows.result c.from_residual-in_err-surplus_rows.ensures.1
    in
    rw (p.1, p.2) (behind _ _ c.in_ok-wallets.ensures (behind _ _ c.in_ok-troves.ensures
    (fails_then c.in_err-surplus_rows.field-0.0 (table_at (surplus_at c.args.end) c.args.end c.in_ok-troves.at.now) _
    c.in_err-surplus_rows.ensures)))

pub returns-in_err-finished : goal.returns-in_err-finished
returns-in_err-finished c =
    let p = err_from_is_err_and c.from_residual-in_err-finished.result c.from_residual-in_err-finished.ensures.1 in
    rw (p.1, p.2) (behind _ _ c.in_ok-wallets.ensures (behind _ _ c.in_ok-troves.ensures
    (behind _ _ c.in_ok-surplus_rows.ensures
    (fails_then c.in_err-finished.field-0.0 (table_at (finished_at c.args.end) c.args.end c.in_ok-surplus_rows.at.now)
    _ c.in_err-finished.ensures))))

pub returns-in_err-deposits : goal.returns-in_err-deposits
returns-in_err-deposits c =
    let p = err_from_is_err_and c.from_residual-in_err-deposits.result c.from_residual-in_err-deposits.ensures.1 in
    rw (p.1, p.2) (behind _ _ c.in_ok-wallets.ensures (behind _ _ c.in_ok-troves.ensures
    (behind _ _ c.in_ok-surplus_rows.ensures (behind _ _ c.in_ok-finished.ensures
    (fails_then c.in_err-deposits.field-0.0 (table_at (deposit_at c.args.end) c.args.end c.in_ok-finished.at.now) _
    c.in_err-deposits.ensures)))))

pub returns-in_err-clients : goal.returns-in_err-clients
returns-in_err-clients c =
    let p = err_from_is_err_and c.from_residual-in_err-clients.result c.from_residual-in_err-clients.ensures.1 in
    rw (p.1, p.2) (behind _ _ c.in_ok-wallets.ensures (behind _ _ c.in_ok-troves.ensures
    (behind _ _ c.in_ok-surplus_rows.ensures (behind _ _ c.in_ok-finished.ensures (behind _ _ c.in_ok-deposits.ensures
    (fails_then c.in_err-clients.field-0.0 (table_at (client_at c.args.end) c.args.end c.in_ok-deposits.at.now) _
    c.in_err-clients.ensures))))))
