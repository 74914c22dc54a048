use Rattle.std.proofs.Common.{◌≡◌, ◌+◌, cond, sym, ap, ◌∙◌, subst, arith}
use Rattle.std.specs.Prelude.{IsTrue, ◌==◌, ◌&&◌}
use Rattle.liq_num.specs.Quotient.{floor_of}
use Rattle.liq_types.specs.Product.{after_offset, place_of, is_place}
use Rattle.liq_types.specs.Soundness.{is_product, is_sum_beside}
use Rattle.liq_stability.specs.Words.{words_in, offset_in, sum_with, words_after}
use Rattle.liq_stability.proofs.Keeping.{sound_product, sound_sum, few_scales}
use Rattle.liq_stability.proofs.Tests.{product_tested, beside_tested}
use Rattle.liq_stability.proofs.offsets.offset_words.Goals as goal
use Rattle.liq_stability.proofs.offsets.offset_words.Goals.{then-stays, else-stays}

pub returns-clause-product : goal.returns-clause-product
returns-clause-product c =
    let r = c.requires in
    let w = c.args.words.now in
    subst (λ p. IsTrue (is_product p)) (sym c.product_after-next.ensures.p)
    (product_tested _ (sound_product w c.args.debt 0 r.product r.sum r.some r.within r.total (omega arith)))

-- the place stays exactly where the code says so
same : (c : goal.After-then_some) → c.eq-stays.result ≡ is_place (place_of (words_in c.args.words.now))
    (place_of (after_offset (words_in c.args.words.now) (offset_in c.args.words.now c.args.debt c.args.coll)))
same c =
    let w = c.args.words.now in
    c.eq-stays.ensures
    ∙ ap (λ n. w.epoch == n && w.scale == c.product_after-next.result.scale) c.product_after-next.ensures.epoch
    ∙ ap (λ n. w.epoch == (after_offset (words_in w) (offset_in w c.args.debt 0)).epoch && w.scale
    == n) c.product_after-next.ensures.scale

grown : (c : goal.After-then_some) → c.args.words.now.sum + c.mul_div.result
    ≡ sum_with c.args.words.now c.args.debt c.args.coll
grown c =
    let w = c.args.words.now in
    ap (λ n. w.sum + n) (c.mul_div.ensures ∙ ap (λ n. floor_of n w.p c.from-2.result) c.from.ensures
    ∙ ap (λ n. floor_of c.args.coll w.p n) c.from-2.ensures)

sum_is : (c : goal.After-then_some) → c.if-stays.after ≡ (words_after c.args.words.now c.args.debt c.args.coll).sum
sum_is c =
    let sum = sum_with c.args.words.now c.args.debt c.args.coll in
    elim c.if-stays.branch [
      | then-stays k ↦ k.after-is ∙ grown c ∙ sym (ap (λ b. cond b sum 0) (sym (same c) ∙ k.if-stays.true))
      | else-stays k ↦ k.after-is ∙ sym (ap (λ b. cond b sum 0) (sym (same c) ∙ k.if-stays.false))
    ]

pub returns-clause-sum : goal.returns-clause-sum
returns-clause-sum c =
    let r = c.requires in
    let w = c.args.words.now in
    let beside = beside_tested (words_after w c.args.debt c.args.coll).sum _
    (sound_sum w c.args.debt c.args.coll r.product r.sum r.some r.within r.total r.worth) in
    subst (λ n. IsTrue (is_sum_beside n c.product_after-next.result.p)) (sym (sum_is c))
    (subst (λ p. IsTrue (is_sum_beside (words_after w c.args.debt c.args.coll).sum p))
    (sym c.product_after-next.ensures.p) beside)

pub returns-clause-scale : goal.returns-clause-scale
returns-clause-scale c =
    let r = c.requires in
    let few = few_scales c.args.words.now c.args.debt 0 r.product r.sum r.some r.within r.total (omega arith) in
    omega (arith, few, c.product_after-next.ensures.scale)
