use Rattle.std.proofs.Common.{sym, ◌∙◌}
use Rattle.std.proofs.lemmas.Result.{err_from_is_err_and}
use Rattle.liq_borrow.proofs.Adjusting.{asked_refuses, held_refuses, ratios_refuse, allowed}
use Rattle.liq_borrow.proofs.adjust.plan_adjust.Goals as goal

pub returns-in_err-check_asked : goal.returns-in_err-check_asked
returns-in_err-check_asked c =
    let p = err_from_is_err_and c.from_residual.result c.from_residual.ensures.1 in
    rw (p.1, p.2, c.in-Some.is)
    (sym (asked_refuses c.args.market.now c.args.wallet.now c.in-Some.had c.args.account c.args.change.now
    c.args.bound _
    c.borrowing-fee.ensures.fee _ (sym c.check_asked.ensures ∙ c.in_err-check_asked.was)))

pub returns-in_err-coll : goal.returns-in_err-coll
returns-in_err-coll c =
    let p = err_from_is_err_and c.from_residual-in_err-coll.result c.from_residual-in_err-coll.ensures.1 in
    rw (p.1, p.2, c.in-Some.is)
    (sym (held_refuses c.args.market.now c.args.wallet.now c.in-Some.had c.args.account c.args.change.now c.args.bound _
    c.borrowing-fee.ensures.fee _ (sym c.check_asked.ensures ∙ c.in_ok-check_asked.was) _ (sym c.left_of.ensures
    ∙ c.in_err-coll.was)))

pub returns-in_err-check_ratios : goal.returns-in_err-check_ratios
returns-in_err-check_ratios c =
    let p = err_from_is_err_and c.from_residual-in_err-check_ratios.result c.from_residual-in_err-check_ratios.ensures.1
    in
    rw (p.1, p.2, c.in-Some.is)
    (sym (ratios_refuse c.args.market.now c.args.wallet.now c.in-Some.had c.args.account c.args.change.now
    c.args.bound _
    c.borrowing-fee.ensures.fee _ (sym c.check_asked.ensures ∙ c.in_ok-check_asked.was) _ (sym c.left_of.ensures
    ∙ c.in_ok-coll.was) _ (sym c.check_ratios.ensures ∙ c.in_err-check_ratios.was)))

pub returns : goal.returns
returns c =
    rw (c.in-Some.is, c.borrowing-fee.ensures.rate)
    (sym (allowed c.args.market.now c.args.wallet.now c.in-Some.had c.args.account c.args.change.now c.args.bound _
    c.borrowing-fee.ensures.fee _ (sym c.check_asked.ensures ∙ c.in_ok-check_asked.was) _ (sym c.left_of.ensures
    ∙ c.in_ok-coll.was) _ (sym c.check_ratios.ensures ∙ c.in_ok-check_ratios.was)))
