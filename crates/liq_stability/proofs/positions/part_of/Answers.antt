use Rattle.std.proofs.Common.{◌*◌, ◌/◌, ◌^◌, ap, ◌∙◌, arith}
use Rattle.std.proofs.Math.Nat.{div-div-eq-div-mul}
use Rattle.liq_num.specs.Quotient.{floor_of}
use Rattle.liq_stability.proofs.Reading.{some_power}
use Rattle.liq_stability.proofs.positions.part_of.Goals as goal

pub nonzero_div-result : goal.nonzero_div-result
nonzero_div-result c = omega (arith, c.pow.ensures, some_power (9 * c.args.scales))

pub returns-clause-part : goal.returns-clause-part
returns-clause-part c =
    let d = c.args.deposit.now in
    ap (λ n. n / c.pow.result) (c.mul_div-part.ensures ∙ ap (λ n. floor_of n c.args.number d.p) c.from.ensures)
    ∙ ap (λ n. d.amount * c.args.number / d.p / n) c.pow.ensures
    ∙ div-div-eq-div-mul (d.amount * c.args.number) d.p (10 ^ (9 * c.args.scales))
