use Rattle.std.proofs.Common.{arith}
use Rattle.liq_core_lowest.proofs.Asking.{asked}
use Rattle.liq_core_lowest.proofs.lowest.plan_victims.Goals as goal

pub returns : goal.returns
returns c s parts sound =
    asked s c.args.count (omega (arith, c.if-count-eq0.false)) (omega (arith, c.if-count-gt-LOWEST_MOST.false))
    c.plan_lowest.result (λ v. v.items) (c.plan_lowest.ensures.state s parts sound)
