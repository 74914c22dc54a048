use Rattle.std.proofs.Common.{◌≡◌, ◌*◌, ◌/◌, ◌^◌, ◌<◌, ap, ◌∙◌, arith}
use Rattle.std.proofs.Math.Nat.{div-lt_iff_lt-mul}
use Rattle.liq_redemption.proofs.walk.cut_of.Goals as goal

pub overflow_cast-result : goal.overflow_cast-result
overflow_cast-result c =
    let lot = c.min-lot.result in
    let price = c.args.price in
    let less : lot * 1000000000 / price < 2 ^ 64 = (div-lt_iff_lt-mul {k = price} {x = lot * 1000000000} {y = 2 ^ 64}
    (omega (arith, c.requires.least))).1 (omega (arith, c.min-lot.ensures, c.requires.wanted)) in
    let is : c.mul_div.result ≡ lot * 1000000000 / price =
    c.mul_div.ensures
    ∙ ap (λ n. n * c.from-2.result / c.from-3.result) c.from.ensures
    ∙ ap (λ n. lot * n / c.from-3.result) c.from-2.ensures
    ∙ ap (λ n. lot * 1000000000 / n) c.from-3.ensures
    in
    record { fits = omega (arith, less, is) }
