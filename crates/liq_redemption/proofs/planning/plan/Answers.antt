use Rattle.std.proofs.Common.{ℕ, ◌*◌, ◌^◌, ◌<◌, ◌≤◌, List, sym, ◌∙◌, subst, arith, inl, inr}
use Rattle.std.proofs.Math.Nat.{mul-le-mul_right}
use Rattle.std.proofs.lemmas.Bool.{cases_lt}
use Rattle.std.proofs.lemmas.Result.{err_from_is_err_and}
use Rattle.liq_redemption.specs.declared.cut.Cut.{Cut}
use Rattle.liq_redemption.specs.Redemption.{drawn, visited_by}
use Rattle.liq_redemption.proofs.Refused.{asked_refuses, behind_asked}
use Rattle.liq_redemption.proofs.Taking.{IsDrawnWithin, drawn_within}
use Rattle.liq_redemption.proofs.planning.plan.Goals as goal

-- what is worth less than so much, each at the price, is less
less_at : (price drawn most : ℕ) → drawn * price < most * price → drawn < most
less_at price drawn most h = elim (cases_lt drawn most) [ inl less ↦ less | inr more ↦ absurd (clash more) ] where
  clash : most ≤ drawn → ⊥
  clash more = let high : most * price ≤ drawn * price = mul-le-mul_right price more in omega (arith, h, high)

pub come_to-requires-clause-drawn : goal.come_to-requires-clause-drawn
come_to-requires-clause-drawn c =
    let m = c.args.market.now in
    let visits = visited_by m.price c.args.troves.now.sums c.args.troves.now.table.rows c.args.order.now.entries in
    let within = subst (λ (l : List Cut). IsDrawnWithin m.price l) (sym c.in_ok-walk.ensures.cuts)
    (drawn_within m.price m.troves c.args.amount visits) in
    less_at m.price (drawn c.in_ok-walk.walk.cuts) (2 ^ 64) (omega (
      arith,
      within,
      c.in_ok-walk.ensures.wanted,
      c.in_ok-check_asked.ensures.worth,
    ))

pub returns-in_err-check_asked : goal.returns-in_err-check_asked
returns-in_err-check_asked c =
    let visits = visited_by c.args.market.now.price c.args.troves.now.sums c.args.troves.now.table.rows
    c.args.order.now.entries in
    let p = err_from_is_err_and c.from_residual.result c.from_residual.ensures.1 in
    rw (p.1, p.2)
    (asked_refuses c.args.market.now c.args.wallet.now visits c.args.amount c.args.bound _ (sym
    c.check_asked.ensures.refused
    ∙ c.in_err-check_asked.was))

pub returns-in_err-come_to : goal.returns-in_err-come_to
returns-in_err-come_to c =
    let visits = visited_by c.args.market.now.price c.args.troves.now.sums c.args.troves.now.table.rows
    c.args.order.now.entries in
    let p = err_from_is_err_and c.from_residual-in_err-come_to.result c.from_residual-in_err-come_to.ensures.1 in
    rw (p.1, p.2)
    (behind_asked c.args.market.now c.args.wallet.now visits c.args.amount c.args.bound _ (sym
    c.check_asked.ensures.refused
    ∙ c.in_ok-check_asked.was) c.in_ok-walk.walk.cuts c.in_ok-walk.ensures.cuts _ c.in_ok-walk.ensures.first
    ∙ sym c.come_to.ensures ∙ c.in_err-come_to.was)

pub returns : goal.returns
returns c =
    let visits = visited_by c.args.market.now.price c.args.troves.now.sums c.args.troves.now.table.rows
    c.args.order.now.entries in
    behind_asked c.args.market.now c.args.wallet.now visits c.args.amount c.args.bound _ (sym
    c.check_asked.ensures.refused
    ∙ c.in_ok-check_asked.was) c.in_ok-walk.walk.cuts c.in_ok-walk.ensures.cuts _ c.in_ok-walk.ensures.first
    ∙ sym c.come_to.ensures ∙ c.in_ok-come_to.was
