use Rattle.std.proofs.Common.{arith}
use Rattle.liq_checkpoint.proofs.Places.{empty_wallet}
use Rattle.liq_checkpoint.proofs.entries.wallet_at.Goals as goal

pub returns-then-lusd-eq0 : goal.returns-then-lusd-eq0
returns-then-lusd-eq0 c =
    let account = c.in_ok-account in
    let coll = c.in_ok-coll in
    let lusd = c.in_ok-lusd in
    empty_wallet c.args.end c.args.last c.args.row.now (account.account, account.at.now) (coll.coll, coll.at.now)
    (lusd.lusd, lusd.rest.now) account.ensures coll.ensures lusd.ensures (omega arith) (omega arith)
    c.place_of_empty_wallet.result c.place_of_empty_wallet.ensures
