use Rattle.liq_checkpoint.proofs.Putting.{Puts-then}
use Rattle.liq_checkpoint.proofs.encoding.put_tables.Goals as goal

pub returns : goal.returns
returns c =
    Puts-then (Puts-then (Puts-then (Puts-then (Puts-then c.in_ok-put_wallets.ensures c.in_ok-put_troves.ensures)
    c.in_ok-put_surpluses.ensures) c.in_ok-put_sums.ensures) c.in_ok-put_deposits.ensures)
    c.in_ok-put_clients.ensures
