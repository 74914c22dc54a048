use Rattle.std.proofs.Common.{sym, ◌∙◌}
use Rattle.std.proofs.lemmas.Result.{err_from_is_err_and}
use Rattle.liq_liquidation.proofs.Refused.{treated_refuses, coll_refuses, debt_refuses, allowed}
use Rattle.liq_liquidation.proofs.plan.plan_one.Goals as goal

pub returns-in_err-one : goal.returns-in_err-one
returns-in_err-one c =
    let p = err_from_is_err_and c.from_residual.result c.from_residual.ensures.1 in
    rw (p.1, p.2)
    (sym (treated_refuses c.args.market.now c.args.sums.now c.args.trove.now c.args.pool_total _ c.entire-coll.ensures
    c.if-market-le1.false _ (sym c.treated.ensures ∙ c.in_err-one.was)))

pub returns-in_err-raised : goal.returns-in_err-raised
returns-in_err-raised c =
    let p = err_from_is_err_and c.from_residual-in_err-raised.result c.from_residual-in_err-raised.ensures.1 in
    rw (p.1, p.2)
    (sym (coll_refuses c.args.market.now c.args.sums.now c.args.trove.now c.args.pool_total _ c.entire-coll.ensures
    c.if-market-le1.false c.in_ok-one.one (sym c.treated.ensures ∙ c.in_ok-one.was) _ (sym c.raised.ensures
    ∙ c.in_err-raised.was)))

pub returns-in_err-raised-2 : goal.returns-in_err-raised-2
returns-in_err-raised-2 c =
    let p = err_from_is_err_and c.from_residual-in_err-raised-2.result c.from_residual-in_err-raised-2.ensures.1 in
    rw (p.1, p.2)
    (sym (debt_refuses c.args.market.now c.args.sums.now c.args.trove.now c.args.pool_total _ c.entire-coll.ensures
    c.if-market-le1.false c.in_ok-one.one (sym c.treated.ensures ∙ c.in_ok-one.was) _ (sym c.raised.ensures
    ∙ c.in_ok-raised.was) _ (sym c.raised-2.ensures ∙ c.in_err-raised-2.was)))

pub returns : goal.returns
returns c =
    sym (allowed c.args.market.now c.args.sums.now c.args.trove.now c.args.pool_total _ c.entire-coll.ensures
    c.if-market-le1.false c.in_ok-one.one (sym c.treated.ensures ∙ c.in_ok-one.was) _ (sym c.raised.ensures
    ∙ c.in_ok-raised.was) _ (sym c.raised-2.ensures ∙ c.in_ok-raised-2.was))
