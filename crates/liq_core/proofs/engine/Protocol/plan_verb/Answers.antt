use Rattle.std.proofs.Common.{sym, subst}
use Rattle.liq_types.specs.declared.requests.Call.{Call}
use Rattle.liq_core.specs.Core.{state_of}
use Rattle.liq_core.specs.Turn.{IsRuled}
use Rattle.liq_core.proofs.engine.Protocol.plan_verb.Goals as goal

pub returns-in-Price : goal.returns-in-Price
returns-in-Price c =
    let s = state_of c.args.self.now in
    c.ruled.ensures s c.args.call.now
    (subst (λ (call : Call). IsRuled s call c.plan_price.result) (sym c.in-Price.is) (c.plan_price.ensures s))

pub returns-in-Advance : goal.returns-in-Advance
returns-in-Advance c =
    let s = state_of c.args.self.now in
    c.ruled-in-Advance.ensures s c.args.call.now
    (subst (λ (call : Call). IsRuled s call c.plan_advance.result) (sym c.in-Advance.is) c.plan_advance.ensures)

pub returns-in-Fund : goal.returns-in-Fund
returns-in-Fund c =
    let s = state_of c.args.self.now in
    c.ruled-in-Fund.ensures s c.args.call.now
    (subst (λ (call : Call). IsRuled s call c.plan_fund.result) (sym c.in-Fund.is) c.plan_fund.ensures)

pub returns-in-Take : goal.returns-in-Take
returns-in-Take c =
    let s = state_of c.args.self.now in
    c.ruled-in-Take.ensures s c.args.call.now
    (subst (λ (call : Call). IsRuled s call c.plan_take.result) (sym c.in-Take.is) c.plan_take.ensures)

pub returns-in-Send : goal.returns-in-Send
returns-in-Send c =
    let s = state_of c.args.self.now in
    c.ruled-in-Send.ensures s c.args.call.now
    (subst (λ (call : Call). IsRuled s call c.plan_send.result) (sym c.in-Send.is) c.plan_send.ensures)

pub returns-in-Open : goal.returns-in-Open
returns-in-Open c =
    let s = state_of c.args.self.now in
    c.ruled-in-Open.ensures s c.args.call.now
    (subst (λ (call : Call). IsRuled s call c.plan_open.result) (sym c.in-Open.is) c.plan_open.ensures)

pub returns-in-Adjust : goal.returns-in-Adjust
returns-in-Adjust c =
    let s = state_of c.args.self.now in
    c.ruled-in-Adjust.ensures s c.args.call.now
    (subst (λ (call : Call). IsRuled s call c.plan_adjust.result) (sym c.in-Adjust.is) c.plan_adjust.ensures)

pub returns-in-Close : goal.returns-in-Close
returns-in-Close c =
    let s = state_of c.args.self.now in
    c.ruled-in-Close.ensures s c.args.call.now
    (subst (λ (call : Call). IsRuled s call c.plan_close.result) (sym c.in-Close.is) c.plan_close.ensures)

pub returns-in-Provide : goal.returns-in-Provide
returns-in-Provide c =
    let s = state_of c.args.self.now in
    c.ruled-in-Provide.ensures s c.args.call.now
    (subst (λ (call : Call). IsRuled s call c.plan_provide.result) (sym c.in-Provide.is) c.plan_provide.ensures)

pub returns-in-Withdraw : goal.returns-in-Withdraw
returns-in-Withdraw c =
    let s = state_of c.args.self.now in
    c.ruled-in-Withdraw.ensures s c.args.call.now
    (subst (λ (call : Call). IsRuled s call c.plan_withdraw.result) (sym c.in-Withdraw.is) c.plan_withdraw.ensures)

pub returns-in-GainToTrove : goal.returns-in-GainToTrove
returns-in-GainToTrove c =
    let s = state_of c.args.self.now in
    c.ruled-in-GainToTrove.ensures s c.args.call.now
    (subst (λ (call : Call). IsRuled s call c.plan_gain_to_trove.result) (sym c.in-GainToTrove.is)
    c.plan_gain_to_trove.ensures)

pub returns-in-Liquidate : goal.returns-in-Liquidate
returns-in-Liquidate c =
    let s = state_of c.args.self.now in
    c.ruled-in-Liquidate.ensures s c.args.call.now
    (subst (λ (call : Call). IsRuled s call c.plan_liquidate.result) (sym c.in-Liquidate.is) c.plan_liquidate.ensures)

pub returns-in-Claim : goal.returns-in-Claim
returns-in-Claim c =
    let s = state_of c.args.self.now in
    c.ruled-in-Claim.ensures s c.args.call.now
    (subst (λ (call : Call). IsRuled s call c.plan_claim.result) (sym c.in-Claim.is) c.plan_claim.ensures)
