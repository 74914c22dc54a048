use Rattle.std.proofs.Common.{◌+◌, ◌*◌, ◌/◌, ◌<◌, ◌≤◌, sym, subst, ap, ◌∙◌, arith}
use Rattle.liq_types.specs.declared.amounts.TheConstants.{P_LEAST, RISES_MOST}
use Rattle.liq_stability.specs.Words.{words_in, offset_in}
use Rattle.liq_stability.proofs.Rising.{range_in, takes_in, IsTried, first_try, next_try, last_try, few_tries, quotient}
use Rattle.liq_stability.proofs.offsets.product_left.Goals as goal

next : (c : goal.In-loop-part) → IsTried c.args.words.now.p (offset_in c.args.words.now c.args.debt 0)
    (c.loop-part.part * 1000000000) (c.loop-part.rise + 1)
next c =
    let w = c.args.words.now in
    let low : c.loop-part.part / w.total < P_LEAST = subst (λ n. c.loop-part.part / n < P_LEAST) c.from-total.ensures
    c.loop-part-test.true in
    next_try (words_in w) (offset_in w c.args.debt 0) (range_in w c.requires.product)
    (takes_in w c.args.debt 0 c.requires.some (omega (arith, c.requires.part)) c.requires.total) c.requires.part
    c.loop-part.part c.loop-part.rise c.loop-part.invariant low

few : (c : goal.In-loop-part) → c.loop-part.rise + 1 ≤ RISES_MOST
few c =
    let w = c.args.words.now in
    let most = few_tries (words_in w) (offset_in w c.args.debt 0) (range_in w c.requires.product)
    (takes_in w c.args.debt 0 c.requires.some (omega (arith, c.requires.part)) c.requires.total) c.requires.part in
    omega (arith, most, (next c).few)

pub loop-part-init : goal.loop-part-init
loop-part-init c =
    let w = c.args.words.now in
    subst (λ n. IsTried w.p (offset_in w c.args.debt 0) (w.p * n) 0) (sym c.from.ensures)
    (first_try (words_in w) (offset_in w c.args.debt 0) (range_in w c.requires.product)
    (takes_in w c.args.debt 0 c.requires.some (omega (arith, c.requires.part)) c.requires.total) c.requires.part)

pub overflow_add-rise : goal.overflow_add-rise
overflow_add-rise c = record { fits = omega (arith, few c) }

pub loop-part-smaller : goal.loop-part-smaller
loop-part-smaller c = omega (arith, few c)

pub loop-part-preserved : goal.loop-part-preserved
loop-part-preserved c = next c

last : (c : goal.After-loop-part) → P_LEAST ≤ c.loop-part.part / c.args.words.now.total
last c = subst (λ n. P_LEAST ≤ c.loop-part.part / n) c.from-total.ensures c.loop-part-test.false

pub returns-clause-p : goal.returns-clause-p
returns-clause-p c =
    let w = c.args.words.now in
    ap (λ n. c.loop-part.part / n) c.from-total.ensures
    ∙ quotient (words_in w) (offset_in w c.args.debt 0) (range_in w c.requires.product)
    (takes_in w c.args.debt 0 c.requires.some (omega (arith, c.requires.part)) c.requires.total) c.requires.part
    c.loop-part.part c.loop-part.rise c.loop-part.invariant

pub returns-clause-rise : goal.returns-clause-rise
returns-clause-rise c =
    let w = c.args.words.now in
    last_try (words_in w) (offset_in w c.args.debt 0) (range_in w c.requires.product)
    (takes_in w c.args.debt 0 c.requires.some (omega (arith, c.requires.part)) c.requires.total) c.requires.part
    c.loop-part.part c.loop-part.rise c.loop-part.invariant (last c)

pub returns-clause-few : goal.returns-clause-few
returns-clause-few c =
    let w = c.args.words.now in
    let most = few_tries (words_in w) (offset_in w c.args.debt 0) (range_in w c.requires.product)
    (takes_in w c.args.debt 0 c.requires.some (omega (arith, c.requires.part)) c.requires.total) c.requires.part in
    omega (arith, most, c.loop-part.invariant.few)
