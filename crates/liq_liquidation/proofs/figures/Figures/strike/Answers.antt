use Rattle.std.proofs.Common.{◌∙◌, sym, subst, arith, Option}
use Rattle.std.specs.Prelude.{IfSome}
use Rattle.liq_types.specs.declared.figures.Trove.{Trove}
use Rattle.liq_liquidation.specs.Given.{IsStruckOf}
use Rattle.liq_liquidation.proofs.Planned.{IsPlanned, planned}
use Rattle.liq_liquidation.proofs.figures.Figures.strike.Goals as goal

made : (c : goal.After-one-2-1) → IsPlanned c.args.self.now.market c.args.self.now.sums c.in-Some-get.trove.now
    c.args.self.now.pool_total c.in_ok-one.one
made c =
    planned c.args.self.now.market c.args.self.now.sums c.in-Some-get.trove.now c.args.self.now.pool_total
    c.in_ok-one.one (sym c.plan_one.ensures ∙ c.in_ok-one.was)

own : (c : goal.After-one-2-1) → IsStruckOf c.args.self.now c.in-Some-get.trove.now
own c =
    subst (λ (o : Option Trove). IfSome o (IsStruckOf c.args.self.now)) (sym c.in-Some-get.ensures.row)
    (c.requires.trove c.in-Some.account c.in-Some.is)

pub pass-requires-clause-stake : goal.pass-requires-clause-stake
pass-requires-clause-stake c = (own c).trove.others (made c).several

pub pass-requires-clause-coll : goal.pass-requires-clause-coll
pass-requires-clause-coll c = omega (arith, (made c).coll, (own c).coll)

pub pass-requires-clause-debt : goal.pass-requires-clause-debt
pass-requires-clause-debt c = omega (arith, (made c).debt, (own c).debt)

pub pass-requires-clause-pool : goal.pass-requires-clause-pool
pass-requires-clause-pool c = (made c).served

pub pass-requires-clause-sum_coll : goal.pass-requires-clause-sum_coll
pass-requires-clause-sum_coll c = (own c).trove.sum_coll

pub pass-requires-clause-sum_debt : goal.pass-requires-clause-sum_debt
pass-requires-clause-sum_debt c = (own c).trove.sum_debt
