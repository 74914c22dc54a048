use Rattle.std.proofs.Common.{ℕ, ap, sym, ◌∙◌}
use Rattle.liq_core.specs.Core.{state_of}
use Rattle.liq_core.proofs.Pooling.{gain_passed, gain_terms, gain_forecast}
use Rattle.liq_core.proofs.engine.Protocol.plan_gain_to_trove.Goals as goal

pub returns : goal.returns
returns c =
    let s = state_of c.args.self.now in
    let account = c.args.account in
    let there = sym c.no_deposit.ensures ∙ c.if-no_deposit.false in
    let balance = ap (λ (t : ℕ × ℕ). t.0) c.position-balance.ensures.position in
    let gain = ap (λ (t : ℕ × ℕ). t.1) c.position-balance.ensures.position in
    let planned = sym c.plan_gain.ensures ∙ c.in_ok-plan.was in
    let passed = gain_passed s account c.args.words there c.market.result c.entire-had.result
    c.position-balance.result.1 c.market.ensures.market c.entire-had.ensures.entire gain c.in_ok-plan.plan planned in
    let terms = gain_terms s account c.args.words there c.market.result c.entire-had.result
    c.position-balance.result.1 c.market.ensures.market c.entire-had.ensures.entire gain c.in_ok-plan.plan planned in (
      passed,
      gain_forecast s account c.args.words c.position-balance.result.0 c.position-balance.result.1 c.in_ok-plan.plan
          c.standing.result balance gain terms c.standing.ensures,
    )
