use Rattle.std.proofs.Common.{ap, sym, ◌∙◌, subst, Option}
use Rattle.std.specs.Prelude.{option_copied}
use Rattle.liq_types.specs.declared.figures.Trove.{Trove}
use Rattle.liq_types.specs.Totals.{market_of}
use Rattle.liq_troves.specs.declared.sums.Sums.{Sums}
use Rattle.liq_stability.specs.declared.words.PoolWords.{PoolWords}
use Rattle.liq_liquidation.specs.Given.{IsTroveOf}
use Rattle.liq_liquidation.specs.One.{one, one_by, one_in}
use Rattle.liq_core.specs.Core.{Core, state_of}
use Rattle.liq_core.specs.Sound.{core_of}
use Rattle.liq_core.proofs.Planning.{its_one, its_trove}
use Rattle.liq_core.proofs.engine.Protocol.one.Goals as goal
use Rattle.std.proofs.Common.{refl}

pub returns-in_default : goal.returns-in_default
returns-in_default c =
    let p = c.self.inside in
    let account = c.args.account in
    let m = market_of (state_of (core_of p)) in
    ap (λ (o : Option Trove). one_in m p.troves.sums p.pool.words.total account o)
    (sym (ap option_copied c.in_default.is) ∙ c.get.ensures.row)
    ∙ its_one p c.self.invariant m refl account
    ∙ ap (λ (core : Core). one (state_of core) account) c.self.view_is

pub plan_one-requires-clause-trove : goal.plan_one-requires-clause-trove
plan_one-requires-clause-trove c =
    let is = c.market.ensures.market ∙ sym (ap (λ (core : Core). market_of (state_of core)) c.self.view_is) in
    subst (λ (s : Sums). IsTroveOf c.market.result s c.in-Some.trove.now) (sym c.sums.ensures.sums)
    (its_trove c.self.inside c.self.invariant c.market.result is c.args.account c.in-Some.trove.now
    (sym c.get.ensures.row ∙ ap option_copied c.in-Some.is))

pub returns : goal.returns
returns c =
    let p = c.self.inside in
    let account = c.args.account in
    let is = c.market.ensures.market ∙ sym (ap (λ (core : Core). market_of (state_of core)) c.self.view_is) in
    c.plan_one.ensures
    ∙ ap (λ (s : Sums). one_by c.market.result s c.in-Some.trove.now c.words.result.now.total) c.sums.ensures.sums
    ∙ ap (λ (w : PoolWords). one_by c.market.result p.troves.sums c.in-Some.trove.now w.total) c.words.ensures.words
    ∙ ap (λ (o : Option Trove). one_in c.market.result p.troves.sums p.pool.words.total account o)
    (sym (ap option_copied c.in-Some.is) ∙ c.get.ensures.row)
    ∙ its_one p c.self.invariant c.market.result is account
    ∙ ap (λ (core : Core). one (state_of core) account) c.self.view_is
