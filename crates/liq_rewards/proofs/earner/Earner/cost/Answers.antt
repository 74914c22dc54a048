use Rattle.std.proofs.Common.{◌-◌, arith}
use Rattle.liq_audit.proofs.Costs.{cost_one}
use Rattle.liq_rewards.proofs.earner.Earner.cost.Goals as goal

pub returns-in_default : goal.returns-in_default
returns-in_default c =
    let e = c.args.self.now in
    let w = c.args.words.now in
    cost_one e.amount w.epoch e.epoch (w.scale - e.scale) (omega (arith, c.if-self-eq0.false))
    (omega arith) c.if-words-self.false (omega (arith, c.in_default))
