use Rattle.std.proofs.Common.{ℕ, ap, sym, ◌∙◌}
use Rattle.liq_types.specs.declared.figures.Market.{Market}
use Rattle.liq_types.specs.Totals.{market_of}
use Rattle.liq_troves.specs.declared.sums.Sums.{Sums}
use Rattle.liq_stability.specs.declared.words.PoolWords.{PoolWords}
use Rattle.liq_core_lowest.specs.declared.course.Course.{Course}
use Rattle.liq_core.specs.Core.{Core, state_of}
use Rattle.liq_core_lowest.specs.Victims.{course_of}
use Rattle.liq_core.proofs.Planning.{its_coll, its_course}
use Rattle.liq_core.proofs.engine.Protocol.course.Goals as goal

abbrev with : PoolWords → Sums → ℕ → Course
with words sums coll = record { words = words; stakes = sums.stakes; coll = coll; sum_debt = sums.debt }

pub returns : goal.returns
returns c =
    let p = c.self.inside in
    let coll = ap (λ (m : Market). m.total_coll) c.market.ensures.market
    ∙ sym (ap (λ (core : Core). (market_of (state_of core)).total_coll) c.self.view_is) in
    ap (λ (w : PoolWords). with w c.sums-sums.result.now c.market.result.total_coll) c.words.ensures.words
    ∙ ap (λ (s : Sums). with p.pool.words s c.market.result.total_coll) c.sums-sums.ensures.sums
    ∙ ap (λ n. with p.pool.words p.troves.sums n) (coll ∙ its_coll p c.self.invariant)
    ∙ its_course p c.self.invariant
    ∙ ap (λ (core : Core). course_of (state_of core)) c.self.view_is
