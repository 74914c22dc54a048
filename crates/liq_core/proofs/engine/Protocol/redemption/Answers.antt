use Rattle.std.proofs.Common.{List, refl, ap, sym, ◌∙◌, subst}
use Rattle.liq_types.specs.declared.figures.Market.{Market}
use Rattle.liq_types.specs.declared.figures.Wallet.{Wallet}
use Rattle.liq_types.specs.State.{wallet_of}
use Rattle.liq_types.specs.Totals.{market_of}
use Rattle.liq_redemption.specs.Answers.{Answers}
use Rattle.liq_redemption.specs.Given.{IsMarket}
use Rattle.liq_redemption.specs.Redemption.{Visit, visited, visited_by}
use Rattle.liq_core.specs.Core.{Core, state_of}
use Rattle.liq_core.proofs.Redeeming.{redeem_market, entire_within_all, once_each, visited_is}
use Rattle.liq_core.proofs.engine.Protocol.redemption.Goals as goal

pub plan-requires-clause-market : goal.plan-requires-clause-market
plan-requires-clause-market c =
    let account = c.args.account in
    let seen = subst (λ (core : Core). IsMarket (market_of (state_of core)) (wallet_of (state_of core) account))
    c.self.view_is (redeem_market c.self.inside c.self.invariant account) in
    subst (λ (m : Market). IsMarket m c.wallet-wallet.result) (sym c.market.ensures.market)
    (subst (λ (w : Wallet). IsMarket (market_of (state_of c.args.self.now)) w) (sym c.wallet-wallet.ensures) seen)

pub plan-requires-clause-entire : goal.plan-requires-clause-entire
plan-requires-clause-entire c = entire_within_all c.self.inside c.self.invariant

pub plan-requires-clause-distinct : goal.plan-requires-clause-distinct
plan-requires-clause-distinct c = once_each c.self.inside c.self.invariant

pub returns : goal.returns
returns c =
    let p = c.self.inside in
    let s = state_of c.args.self.now in
    let lusd = c.args.lusd in
    let bound = c.args.bound in
    let price = ap (λ (m : Market). m.price) c.market.ensures.market
    ∙ sym (ap (λ (core : Core). (state_of core).price) c.self.view_is) in
    let visits = ap (λ n. visited_by n p.troves.sums p.troves.table.rows p.order.entries) price
    ∙ sym (visited_is p c.self.invariant p.order.entries refl)
    ∙ ap (λ (core : Core). visited (state_of core)) c.self.view_is in
    subst (λ (vs : List Visit). Answers (market_of s) (wallet_of s c.args.account) vs lusd bound c.plan.result) visits
    (subst (λ (m : Market). Answers m (wallet_of s c.args.account) (visited_by c.market.result.price p.troves.sums
    p.troves.table.rows p.order.entries) lusd bound c.plan.result) c.market.ensures.market
    (subst (λ (w : Wallet). Answers c.market.result w (visited_by c.market.result.price p.troves.sums
    p.troves.table.rows p.order.entries) lusd bound c.plan.result) c.wallet-wallet.ensures c.plan.ensures))
