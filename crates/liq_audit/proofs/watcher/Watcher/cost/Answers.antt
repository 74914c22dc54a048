use Rattle.std.proofs.Common.{◌-◌, arith}
use Rattle.liq_audit.proofs.Costs.{cost_one}
use Rattle.liq_audit.proofs.watcher.Watcher.cost.Goals as goal

pub returns-in_default : goal.returns-in_default
returns-in_default c =
    let v = c.args.self in
    cost_one v.amount v.epoch v.own_epoch (v.scale - v.own_scale) (omega (arith, c.if-self-eq0.false))
    (omega arith) c.if-self.false (omega (arith, c.in_default))
