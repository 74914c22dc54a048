use Rattle.std.proofs.Common.{◌≡◌, ℕ, List, sym, subst, None}
use Rattle.liq_types.specs.declared.hints.Hint.{Hint}
use Rattle.liq_types.specs.declared.requests.Call.{Call}
use Rattle.liq_types.specs.Ranked.{Ranked}
use Rattle.liq_types.specs.Rules.{first_refusal}
use Rattle.liq_types.specs.State.{State}
use Rattle.liq_trove_moves.specs.Steps.{TakesFew, entry_in}
use Rattle.liq_redemption.specs.Last.{last_entry}
use Rattle.liq_rule_step.specs.Step.{rules}
use Rattle.liq_core.specs.declared.effects.Move.{Move}
use Rattle.liq_core.specs.Core.{Changes, state_of}
use Rattle.liq_core.specs.Effects.{IsMadeBy, IsMove, words_in}
use Rattle.liq_core.specs.Steps.{entry_put, used_hint}
use Rattle.liq_core.proofs.Stepping.{takes_none}
use Rattle.liq_core.proofs.engine.Protocol.change.Goals as goal

abbrev Passes : State → Call → Type 0
Passes s call = first_refusal (rules s call) ≡ None

pub apply_open-requires-clause-allowed : goal.apply_open-requires-clause-allowed
apply_open-requires-clause-allowed g c =
    let s = state_of c.args.self.now in
    let may = subst (λ (m : Move). IsMadeBy s m (Passes s)) c.in-Open.is c.requires.allowed in
    (may.0, c.in-Open.words, may.1)

pub apply_adjust-requires-clause-allowed : goal.apply_adjust-requires-clause-allowed
apply_adjust-requires-clause-allowed g c =
    let s = state_of c.args.self.now in
    let may = subst (λ (m : Move). IsMadeBy s m (Passes s)) c.in-Adjust.is c.requires.allowed in
    (may.0, c.in-Adjust.words, may.1)

pub apply_gain_to_trove-requires-clause-allowed : goal.apply_gain_to_trove-requires-clause-allowed
apply_gain_to_trove-requires-clause-allowed g c =
    let s = state_of c.args.self.now in
    let may = subst (λ (m : Move). IsMadeBy s m (Passes s)) c.in-GainToTrove.is c.requires.allowed in
    (c.in-GainToTrove.words, may.0)

pub apply_redeem-requires-clause-planned : goal.apply_redeem-requires-clause-planned
apply_redeem-requires-clause-planned g c =
    let s = state_of c.args.self.now in
    let may = subst (λ (m : Move). IsMadeBy s m (Passes s)) c.in-Redeem.is c.requires.allowed in
    (may.0, may.1, c.in-Redeem.words, may.2, may.3)

-- ---- what is made

pub returns-in-Price-clause-made : goal.returns-in-Price-clause-made
returns-in-Price-clause-made g c call is =
    let its = subst (IsMove (state_of c.args.self.now) call) c.in-Price.is is in
    subst (λ (k : Call). Changes c.args.self.now k c.apply_price.new.self) (sym its) c.apply_price.ensures

pub returns-in-Advance-clause-made : goal.returns-in-Advance-clause-made
returns-in-Advance-clause-made g c call is =
    let its = subst (IsMove (state_of c.args.self.now) call) c.in-Advance.is is in
    subst (λ (k : Call). Changes c.args.self.now k c.apply_advance.new.self) (sym its) c.apply_advance.ensures

pub returns-in-Fund-clause-made : goal.returns-in-Fund-clause-made
returns-in-Fund-clause-made g c call is =
    let its = subst (IsMove (state_of c.args.self.now) call) c.in-Fund.is is in
    subst (λ (k : Call). Changes c.args.self.now k c.apply_fund.new.self) (sym its) c.apply_fund.ensures

pub returns-in-Take-clause-made : goal.returns-in-Take-clause-made
returns-in-Take-clause-made g c call is =
    let its = subst (IsMove (state_of c.args.self.now) call) c.in-Take.is is in
    subst (λ (k : Call). Changes c.args.self.now k c.apply_take.new.self) (sym its) c.apply_take.ensures

pub returns-in-Send-clause-made : goal.returns-in-Send-clause-made
returns-in-Send-clause-made g c call is =
    let its = subst (IsMove (state_of c.args.self.now) call) c.in-Send.is is in
    subst (λ (k : Call). Changes c.args.self.now k c.apply_send.new.self) (sym its) c.apply_send.ensures

pub returns-in-Open-clause-made : goal.returns-in-Open-clause-made
returns-in-Open-clause-made g c call is =
    let its = subst (IsMove (state_of c.args.self.now) call) c.in-Open.is is in
    subst (λ (k : Call). Changes c.args.self.now k c.apply_open.new.self) (sym its.1)
    (c.apply_open.ensures.made its.0 c.in-Open.words)

pub returns-in-Adjust-clause-made : goal.returns-in-Adjust-clause-made
returns-in-Adjust-clause-made g c call is =
    let its = subst (IsMove (state_of c.args.self.now) call) c.in-Adjust.is is in
    subst (λ (k : Call). Changes c.args.self.now k c.apply_adjust.new.self) (sym its.1)
    (c.apply_adjust.ensures.made its.0 c.in-Adjust.words)

pub returns-in-Close-clause-made : goal.returns-in-Close-clause-made
returns-in-Close-clause-made g c call is =
    let its = subst (IsMove (state_of c.args.self.now) call) c.in-Close.is is in
    subst (λ (k : Call). Changes c.args.self.now k c.apply_close.new.self) (sym its.0) c.apply_close.ensures

pub returns-in-Provide-clause-made : goal.returns-in-Provide-clause-made
returns-in-Provide-clause-made g c call is =
    let its = subst (IsMove (state_of c.args.self.now) call) c.in-Provide.is is in
    subst (λ (k : Call). Changes c.args.self.now k c.apply_provide.new.self) (sym its) c.apply_provide.ensures

pub returns-in-Withdraw-clause-made : goal.returns-in-Withdraw-clause-made
returns-in-Withdraw-clause-made g c call is =
    let its = subst (IsMove (state_of c.args.self.now) call) c.in-Withdraw.is is in
    subst (λ (k : Call). Changes c.args.self.now k c.apply_withdraw.new.self) (sym its) c.apply_withdraw.ensures

pub returns-in-GainToTrove-clause-made : goal.returns-in-GainToTrove-clause-made
returns-in-GainToTrove-clause-made g c call is =
    let its = subst (IsMove (state_of c.args.self.now) call) c.in-GainToTrove.is is in
    subst (λ (k : Call). Changes c.args.self.now k c.apply_gain_to_trove.new.self) (sym its.0)
    (c.apply_gain_to_trove.ensures.made c.in-GainToTrove.words)

pub returns-in-Redeem-clause-made : goal.returns-in-Redeem-clause-made
returns-in-Redeem-clause-made g c call is =
    let its = subst (IsMove (state_of c.args.self.now) call) c.in-Redeem.is is in
    subst (λ (k : Call). Changes c.args.self.now k c.apply_redeem.new.self) (sym its.2)
    (c.apply_redeem.ensures.made its.0 its.1 c.in-Redeem.words its.3)

pub returns-in-Claim-clause-made : goal.returns-in-Claim-clause-made
returns-in-Claim-clause-made g c call is =
    let its = subst (IsMove (state_of c.args.self.now) call) c.in-Claim.is is in
    subst (λ (k : Call). Changes c.args.self.now k c.apply_claim.new.self) (sym its) c.apply_claim.ensures

-- ---- the steps

pub returns-in-Open-clause-few : goal.returns-in-Open-clause-few
returns-in-Open-clause-few g c =
    let list = c.apply_open.new.self.list in
    let now = c.args.steps.now in
    let new = c.apply_open.new.steps in
    subst (λ (m : Move). TakesFew list (used_hint (words_in m) c.args.hint.now) (entry_put m list) now new)
    (sym c.in-Open.is)
    (subst (λ (h : Hint). TakesFew list h (entry_in list c.in-Open.account) now new)
    c.hint_of-hint.ensures c.apply_open.ensures.few)

pub returns-in-Adjust-clause-few : goal.returns-in-Adjust-clause-few
returns-in-Adjust-clause-few g c =
    let list = c.apply_adjust.new.self.list in
    let now = c.args.steps.now in
    let new = c.apply_adjust.new.steps in
    subst (λ (m : Move). TakesFew list (used_hint (words_in m) c.args.hint.now) (entry_put m list) now new)
    (sym c.in-Adjust.is)
    (subst (λ (h : Hint). TakesFew list h (entry_in list c.in-Adjust.account) now new)
    c.hint_of-hint-in-Adjust.ensures c.apply_adjust.ensures.few)

pub returns-in-GainToTrove-clause-few : goal.returns-in-GainToTrove-clause-few
returns-in-GainToTrove-clause-few g c =
    let list = c.apply_gain_to_trove.new.self.list in
    let now = c.args.steps.now in
    let new = c.apply_gain_to_trove.new.steps in
    subst (λ (m : Move). TakesFew list (used_hint (words_in m) c.args.hint.now) (entry_put m list) now new)
    (sym c.in-GainToTrove.is)
    (subst (λ (h : Hint). TakesFew list h (entry_in list c.in-GainToTrove.account) now new)
    c.hint_of-hint-in-GainToTrove.ensures c.apply_gain_to_trove.ensures.few)

pub returns-in-Redeem-clause-few : goal.returns-in-Redeem-clause-few
returns-in-Redeem-clause-few g c =
    let list = c.apply_redeem.new.self.list in
    let now = c.args.steps.now in
    let new = c.apply_redeem.new.steps in
    subst (λ (m : Move). TakesFew list (used_hint (words_in m) c.args.hint.now) (entry_put m list) now new)
    (sym c.in-Redeem.is)
    (subst (λ (h : Hint). TakesFew list h (last_entry list c.in-Redeem.plan.cuts) now new)
    c.hint_of-hint-in-Redeem.ensures c.apply_redeem.ensures.few)

-- nothing is put, whatever would be
none_put : (moved : Move) (list : List Ranked) (hint : Hint) (n : ℕ)
    → TakesFew list (used_hint (words_in moved) hint) (entry_put moved list) n n
none_put moved list hint n = takes_none list (used_hint (words_in moved) hint) (entry_put moved list) n

pub returns-in-Price-clause-few : goal.returns-in-Price-clause-few
returns-in-Price-clause-few g c =
    none_put c.args.moved.now c.apply_price.new.self.list c.args.hint.now c.args.steps.now

pub returns-in-Advance-clause-few : goal.returns-in-Advance-clause-few
returns-in-Advance-clause-few g c =
    none_put c.args.moved.now c.apply_advance.new.self.list c.args.hint.now c.args.steps.now

pub returns-in-Fund-clause-few : goal.returns-in-Fund-clause-few
returns-in-Fund-clause-few g c =
    none_put c.args.moved.now c.apply_fund.new.self.list c.args.hint.now c.args.steps.now

pub returns-in-Take-clause-few : goal.returns-in-Take-clause-few
returns-in-Take-clause-few g c =
    none_put c.args.moved.now c.apply_take.new.self.list c.args.hint.now c.args.steps.now

pub returns-in-Send-clause-few : goal.returns-in-Send-clause-few
returns-in-Send-clause-few g c =
    none_put c.args.moved.now c.apply_send.new.self.list c.args.hint.now c.args.steps.now

pub returns-in-Close-clause-few : goal.returns-in-Close-clause-few
returns-in-Close-clause-few g c =
    none_put c.args.moved.now c.apply_close.new.self.list c.args.hint.now c.args.steps.now

pub returns-in-Provide-clause-few : goal.returns-in-Provide-clause-few
returns-in-Provide-clause-few g c =
    none_put c.args.moved.now c.apply_provide.new.self.list c.args.hint.now c.args.steps.now

pub returns-in-Withdraw-clause-few : goal.returns-in-Withdraw-clause-few
returns-in-Withdraw-clause-few g c =
    none_put c.args.moved.now c.apply_withdraw.new.self.list c.args.hint.now c.args.steps.now

pub returns-in-Claim-clause-few : goal.returns-in-Claim-clause-few
returns-in-Claim-clause-few g c =
    none_put c.args.moved.now c.apply_claim.new.self.list c.args.hint.now c.args.steps.now
