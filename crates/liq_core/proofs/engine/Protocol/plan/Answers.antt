use Rattle.std.proofs.Common.{◌∙◌, refl, subst, sym}
use Rattle.std.specs.Prelude.{Result, Err}
use Rattle.liq_types.specs.Soundness.{IsSoundImage}
use Rattle.liq_core.specs.Core.{Core, state_of}
use Rattle.liq_rule_step.specs.Rules.{rules}
use Rattle.liq_core.specs.declared.turns.Forecast.{Forecast}
use Rattle.liq_core.specs.declared.turns.PlanFault.{PlanFault}
use Rattle.liq_core.specs.Turn.{ForecastsCall}
use Rattle.liq_rule_step.specs.Verbs.{accounts}
use Rattle.liq_rule_step.proofs.AlikeLists.{plans_list_alike}
use Rattle.liq_rule_step.proofs.Ruled.{accounts_within, allowed_call, refused_call, refused_room}
use Rattle.liq_core.proofs.Stands.{planned_alike, standing_alike, standing_ruling}
use Rattle.liq_core.proofs.engine.Protocol.plan.Goals as goal

pub returns-in-Ok-Some : goal.returns-in-Ok-Some
returns-in-Ok-Some c s h =
    let sound = subst (λ (view : Core). IsSoundImage view.image view.records) c.self.view_is c.self.invariant.image in
    standing_ruling c.args.self.now s c.args.command.now sound h ∙ (rw c.in-Ok-Some.field-0-is at c.in-Ok-Some.ensures)

pub returns-in-Err : goal.returns-in-Err
returns-in-Err c s h =
    let sound = subst (λ (view : Core). IsSoundImage view.image view.records) c.self.view_is c.self.invariant.image in
    standing_ruling c.args.self.now s c.args.command.now sound h ∙ c.in-Err.ensures

pub returns-in-Err-No : goal.returns-in-Err-No
returns-in-Err-No c s h =
    let core = c.args.self.now in
    let command = c.args.command.now in
    let next = rw c.in-Ok-None.field-0-is at c.in-Ok-None.ensures in
    let sound = subst (λ (view : Core). IsSoundImage view.image view.records) c.self.view_is c.self.invariant.image in
    standing_ruling core s command sound h ∙ refused_call (state_of core) command c.in-Err-No.refusal next.0 next.1
    (subst (λ (fault : PlanFault). ForecastsCall (state_of core) command.call (Err fault)) c.in-Err-No.field-0-is
    (subst (λ (r : Result Forecast PlanFault). ForecastsCall (state_of core) command.call r) c.in-Err-No.is
    c.plan_call.ensures))

pub returns-in-Err-NoMemory : goal.returns-in-Err-NoMemory
returns-in-Err-NoMemory c s h =
    let core = c.args.self.now in
    let command = c.args.command.now in
    let next = rw c.in-Ok-None.field-0-is at c.in-Ok-None.ensures in
    let sound = subst (λ (view : Core). IsSoundImage view.image view.records) c.self.view_is c.self.invariant.image in
    plans_list_alike (standing_alike core s sound h) command
    (record {
      client = next.0;
      turn = next.1;
      call =
          subst (λ (fault : PlanFault). ForecastsCall (state_of core) command.call (Err fault))
          c.in-Err-NoMemory.field-0-is
          (subst (λ (r : Result Forecast PlanFault). ForecastsCall (state_of core) command.call r) c.in-Err-NoMemory.is
          c.plan_call.ensures);
    })

pub returns-in-Some : goal.returns-in-Some
returns-in-Some c s h =
    let core = c.args.self.now in
    let command = c.args.command.now in
    let next = rw c.in-Ok-None.field-0-is at c.in-Ok-None.ensures in
    let sound = subst (λ (view : Core). IsSoundImage view.image view.records) c.self.view_is c.self.invariant.image in
    let full = sym c.no_room.ensures ∙ c.in-Some.is in
    standing_ruling core s command sound h ∙ refused_room (state_of core) command c.in-Some.refusal next.0 next.1
    c.in-Ok.ensures.0 full

pub invariant_of-result : goal.invariant_of-result
invariant_of-result c =
    let call = c.args.command.now.call in
    record {
      client = (rw c.in-Ok-None.field-0-is at c.in-Ok-None.ensures).0;
      accounts = accounts_within (accounts call) (rules (state_of c.args.self.now) call) c.in-Ok.ensures.0;
    }

pub returns : goal.returns
returns c s h =
    let core = c.args.self.now in
    let command = c.args.command.now in
    let next = rw c.in-Ok-None.field-0-is at c.in-Ok-None.ensures in
    let sound = subst (λ (view : Core). IsSoundImage view.image view.records) c.self.view_is c.self.invariant.image in
    let free = sym c.no_room.ensures ∙ c.in_default.is in
    let allowed = standing_ruling core s command sound h
    ∙ allowed_call (state_of core) command next.0 next.1 c.in-Ok.ensures.0 free in
    (refl, planned_alike (standing_alike core s sound h) command c.in-Ok.forecast allowed c.in-Ok.ensures.1)
