use Rattle.std.proofs.Common.{◌*◌, ◌/◌, ◌^◌, ap, ◌∙◌, arith}
use Rattle.std.proofs.Math.Nat.{div-div-eq-div-mul}
use Rattle.liq_num.specs.Quotient.{floor_of}
use Rattle.liq_stability.proofs.Reading.{some_power}
use Rattle.liq_rewards.proofs.earner.Earner.part.Goals as goal

pub nonzero_div-result : goal.nonzero_div-result
nonzero_div-result c = omega (arith, c.pow.ensures, some_power (9 * c.args.scales))

pub returns-clause-part : goal.returns-clause-part
returns-clause-part c =
    let e = c.args.self.now in
    ap (λ n. n / c.pow.result) (c.mul_div-part.ensures ∙ ap (λ n. floor_of n c.args.sum e.p) c.from.ensures)
    ∙ ap (λ n. e.amount * c.args.sum / e.p / n) c.pow.ensures
    ∙ div-div-eq-div-mul (e.amount * c.args.sum) e.p (10 ^ (9 * c.args.scales))
