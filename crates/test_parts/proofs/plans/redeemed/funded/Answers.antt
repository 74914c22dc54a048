use Rattle.std.proofs.Common.{ℕ, [], ap, sym, ◌∙◌, subst}
use Rattle.std.specs.List.Sorted.{IsStrictlySortedBy}
use Rattle.liq_types.specs.declared.figures.Wallet.{Wallet}
use Rattle.liq_types.specs.Payments.{credited_in}
use Rattle.liq_types.specs.Tables.{Table}
use Rattle.liq_types.specs.WellFormed.{Ascends}
use Rattle.test_parts.proofs.plans.redeemed.funded.Goals as goal

one_ascends : (account : ℕ) → Ascends (credited_in [] account 0 8000000000)
unfolding IsStrictlySortedBy
one_ascends account = (tt, tt)

pub returns-clause-ascend : goal.returns-clause-ascend
returns-clause-ascend c =
    let none = c.in_ok-reserve.ensures.rows ∙ c.new-wallets.ensures in
    let rows = c.pay.ensures.moved ∙ ap (λ (t : Table Wallet). credited_in t c.args.account 0 8000000000) none in
    subst (λ (t : Table Wallet). Ascends t) (sym rows) (one_ascends c.args.account)
