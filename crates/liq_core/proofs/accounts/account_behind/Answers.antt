use Rattle.std.proofs.Common.{ap, sym, ◌∙◌, arith}
use Rattle.std.proofs.Math.ListN.{drop_of_length-le}
use Rattle.liq_types.specs.Ranked.{first_of, from_last}
use Rattle.liq_core.proofs.FromTheEnd.{next_behind, none_left, stands_in}
use Rattle.liq_core.proofs.accounts.account_behind.Goals as goal

pub returns-in_err-account : goal.returns-in_err-account
returns-in_err-account c =
    let all = from_last c.args.order.now.entries in
    let low = c.loop-test.true in
    let none = none_left all c.loop.counter (sym c.loop.invariant ∙ c.in_err-account.was) in
    c.from_residual.ensures ∙ sym (ap first_of (drop_of_length-le all {i = c.args.passed} (omega (arith, none, low))))

pub before-next-requires : goal.before-next-requires
before-next-requires c =
    stands_in c.args.order.now.entries c.loop.counter c.in_ok-account.account (sym c.loop.invariant
    ∙ c.in_ok-account.was)

pub loop-preserved : goal.loop-preserved
loop-preserved c =
    c.before-next.ensures
    ∙ next_behind c.args.order.now.entries c.loop.counter c.in_ok-account.account c.requires (sym c.loop.invariant
    ∙ c.in_ok-account.was)
