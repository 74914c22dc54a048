use Rattle.std.proofs.Common.{◌≡◌, ◌+◌, ◌<◌, ◌/◌, ◌^◌, arith, refl, sym, ◌∙◌, ap, min}
use Rattle.liq_num.specs.Power.{power_of, digits_product, squared}
use Rattle.liq_num.specs.declared.power.TheConstants.{MOST_MINUTES}
use Rattle.liq_num.proofs.Halving.{turns_of, turns_of-more}
use Rattle.liq_num.proofs.Squaring.{turned_first, turned_odd, turned_even, turned_last}
use Rattle.liq_num.proofs.power.dec_pow.Goals as goal
use Rattle.liq_num.proofs.power.dec_pow.Goals.{then-exponent-eq1, else-exponent-eq1}

pub returns-then-exponent-eq0-clause-power : goal.returns-then-exponent-eq0-clause-power
unfolding power_of digits_product squared
returns-then-exponent-eq0-clause-power c =
    let none : min c.args.n MOST_MINUTES ≡ 0 = sym c.min-exponent.ensures ∙ c.if-exponent-eq0.true in rw none refl

pub loop-exponent-init : goal.loop-exponent-init
loop-exponent-init c =
    record {
      turned = turned_first c.args.x c.min-exponent.result;
      square_within = c.requires;
      product_within = omega arith;
      some_left = omega arith;
    }

pub loop-exponent-preserved : goal.loop-exponent-preserved
loop-exponent-preserved c =
    let was = c.loop-exponent.invariant in
    elim c.if-exponent-eq1.branch [
      | then-exponent-eq1 w ↦
          record {
            turned =
                rw (w.product-is, w.dec_mul-product.ensures.product, c.dec_mul-square.ensures.product)
                (turned_odd _ _ _ _ _ was.turned w.if-exponent-eq1.true);
            square_within = c.dec_mul-square.ensures.within;
            product_within = rw w.product-is w.dec_mul-product.ensures.within;
            some_left = omega arith;
          }
      | else-exponent-eq1 w ↦
          record {
            turned =
                rw (w.product-is, c.dec_mul-square.ensures.product)
                (turned_even _ _ _ _ _ was.turned w.if-exponent-eq1.false);
            square_within = c.dec_mul-square.ensures.within;
            product_within = rw w.product-is was.product_within;
            some_left = omega arith;
          }
    ]

pub loop-exponent-smaller : goal.loop-exponent-smaller
loop-exponent-smaller c =
    let left = c.loop-exponent.exponent in
    let more : turns_of left ≡ turns_of (left / 2) + 1 = turns_of-more left c.loop-exponent-test.true (omega arith) in
    omega arith

pub returns-clause-power : goal.returns-clause-power
unfolding power_of
returns-clause-power c =
    let was = c.loop-exponent.invariant in
    let last : c.loop-exponent.exponent ≡ 1 = omega arith in
    let few : c.min-exponent.result < 2 ^ 30 = omega arith in
    c.dec_mul.ensures.product
    ∙ (turned_last _ _ _ _ _ was.turned last few ∙ ap (λ m. digits_product c.args.x m 30) c.min-exponent.ensures)
