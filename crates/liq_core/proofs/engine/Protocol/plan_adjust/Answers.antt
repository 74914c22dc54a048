use Rattle.std.proofs.Common.{◌≤◌, sym, ◌∙◌, subst}
use Rattle.std.proofs.lemmas.Result.{err_from_is_err_and}
use Rattle.liq_types.specs.Soundness.{IsSoundImage}
use Rattle.liq_borrow.specs.declared.change.Plan.{Plan}
use Rattle.liq_core.specs.Core.{Core, state_of}
use Rattle.liq_core.proofs.Forecasting.{adjust_refused, adjust_allowed, adjust_forecast}
use Rattle.liq_rule_sound.proofs.SoundBorrow.{adjust_allows_own}
use Rattle.liq_core.proofs.SoundCores.{core_finds}
use Rattle.liq_core.proofs.engine.Protocol.plan_adjust.Goals as goal

pub returns-in_err-plan : goal.returns-in_err-plan
returns-in_err-plan c =
    let p = err_from_is_err_and c.from_residual.result c.from_residual.ensures.1 in
    rw (p.1, p.2)
    (adjust_refused (state_of c.args.self.now) c.args.account c.market.result c.wallet-wallet.result
    c.market.ensures.market c.wallet-wallet.ensures c.args.change.now c.args.bound c.args.words c.entire-had.result
    c.entire-had.ensures.entire c.in_err-plan.field-0.0
    (sym c.plan_adjust.ensures ∙ c.in_err-plan.was))

pub standing-requires : goal.standing-requires
standing-requires c =
    let core = c.args.self.now in
    let s = state_of core in
    let account = c.args.account in
    let sound = subst (λ (view : Core). IsSoundImage view.image view.records) c.self.view_is c.self.invariant.image in
    let a = adjust_allowed s account c.market.result c.wallet-wallet.result c.market.ensures.market
    c.wallet-wallet.ensures c.args.change.now c.args.bound c.args.words c.entire-had.result c.entire-had.ensures.entire
    c.in_ok-plan.plan
    (sym c.plan_adjust.ensures ∙ c.in_ok-plan.was) in
    let allows = adjust_allows_own s (core_finds core sound) account c.args.bound c.args.change.now a.0 in
    subst (λ (p : Plan). 1 ≤ p.coll) (sym a.1) allows.some

pub returns : goal.returns
returns c =
    let s = state_of c.args.self.now in
    let a = adjust_allowed s c.args.account c.market.result c.wallet-wallet.result c.market.ensures.market
    c.wallet-wallet.ensures c.args.change.now c.args.bound c.args.words c.entire-had.result c.entire-had.ensures.entire
    c.in_ok-plan.plan
    (sym c.plan_adjust.ensures ∙ c.in_ok-plan.was) in (
      a.0,
      adjust_forecast s c.args.account c.args.change.now c.args.bound c.args.words c.in_ok-plan.plan
          c.standing.result a.1 c.standing.ensures,
    )
