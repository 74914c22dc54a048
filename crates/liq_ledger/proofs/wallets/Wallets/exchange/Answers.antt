use Rattle.std.proofs.Common.{◌+◌, ◌-◌, ap, ◌∙◌, arith}
use Rattle.liq_types.specs.declared.figures.Wallet.{Wallet}
use Rattle.liq_types.specs.State.{with_wallet}
use Rattle.liq_tables.specs.WithRoom.{WithRoom}
use Rattle.liq_ledger.proofs.Exchanging.{left, exchanging}
use Rattle.liq_ledger.proofs.wallets.Wallets.exchange.Goals as goal

pub overflow_add-left : goal.overflow_add-left
overflow_add-left c =
    let had = ap (λ (w : Wallet). w.coll) c.read-had.ensures.wallet in
    let rest = ap (λ (w : Wallet). w.coll) (left c.args.self.now.rows c.args.account c.args.given.now.coll
    c.args.given.now.lusd c.read-had.ensures.ascend) in
    record { fits = omega (arith, had, rest, c.requires.coll_limit) }

pub overflow_add-left-2 : goal.overflow_add-left-2
overflow_add-left-2 c =
    let had = ap (λ (w : Wallet). w.lusd) c.read-had.ensures.wallet in
    let rest = ap (λ (w : Wallet). w.lusd) (left c.args.self.now.rows c.args.account c.args.given.now.coll
    c.args.given.now.lusd c.read-had.ensures.ascend) in
    record { fits = omega (arith, had, rest, c.requires.lusd_limit) }

pub returns-clause-rows : goal.returns-clause-rows
returns-clause-rows c =
    let now : Wallet → Wallet = λ w. record {
      coll = w.coll - c.args.given.now.coll + c.args.got.now.coll;
      lusd = w.lusd - c.args.given.now.lusd + c.args.got.now.lusd;
    } in
    c.write.ensures.rows
    ∙ ap (λ (t : WithRoom Wallet). with_wallet t.rows c.args.account (now c.read-had.result)) c.self.view_is
    ∙ ap (λ (w : Wallet). with_wallet c.args.self.now.rows c.args.account (now w)) c.read-had.ensures.wallet
    ∙ exchanging c.args.self.now.rows c.args.account c.args.given.now.coll c.args.given.now.lusd
    c.read-had.ensures.ascend c.args.got.now.coll c.args.got.now.lusd
