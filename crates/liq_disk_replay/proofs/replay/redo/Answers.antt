use Rattle.std.proofs.Common.{◌∙◌, ◌++◌, List, ap, subst, sym}
use Rattle.liq_types.specs.declared.events.PoolEvent.{PoolEvent}
use Rattle.liq_types.specs.declared.replies.Done.{Done}
use Rattle.liq_types.specs.declared.requests.Command.{Command}
use Rattle.liq_rule_step.specs.Rules.{call_events, done_of}
use Rattle.liq_rule_step.specs.Step.{after}
use Rattle.liq_core.specs.Core.{Core, StandsFor, state_of}
use Rattle.liq_core.proofs.SameContents.{stands_after}
use Rattle.liq_core_hinted.proofs.Steps.{counts_on, generation_stays, planned_allowed}
use Rattle.liq_disk_replay.specs.declared.fault.ReplayFault.{ReplayFault}
use Rattle.liq_disk_replay.specs.Making.{IsUnmade}
use Rattle.liq_disk_replay.specs.Retold.{HasCome}
use Rattle.liq_disk_replay.proofs.Replays.{damage_refused, damage_repeated, done_same, handed_unmade}
use Rattle.liq_disk_replay.proofs.replay.redo.Goals as goal

pub returns-in-Ok-Again-clause-replayed : goal.returns-in-Ok-Again-clause-replayed
returns-in-Ok-Again-clause-replayed g c s h = (
  subst (λ (f : ReplayFault). IsUnmade s c.args.command.now c.args.index f) (sym c.damaged.ensures)
      (damage_repeated s c.args.command.now c.args.index c.in-Ok-Again.field-0-0
      (sym (c.unhinted.ensures.ruling s) ∙ (rw c.in-Ok-Again.field-0-is at c.in-Ok-Again.ensures) s h)),
  h,
)

pub returns-in-Err-No-clause-replayed : goal.returns-in-Err-No-clause-replayed
returns-in-Err-No-clause-replayed g c s h = (
  subst (λ (f : ReplayFault). IsUnmade s c.args.command.now c.args.index f) (sym c.damaged-in-Err-No.ensures)
      (damage_refused s c.args.command.now c.args.index c.in-Err-No.refusal c.code_of.result c.code_of.ensures
      (sym (c.unhinted.ensures.ruling s) ∙ (rw c.in-Err-No.field-0-is at c.in-Err-No.ensures) s h)),
  h,
)

pub see-requires-clause-come : goal.see-requires-clause-come
see-requires-clause-come g c anything =
    subst (λ (p : Core). HasCome g.O.Onlooker.adds p (g.O.Onlooker.notes c.args.onlooker.now))
    (sym c.protocol-2.ensures) (c.requires anything)

pub returns-in_err-see-clause-replayed : goal.returns-in_err-see-clause-replayed
returns-in_err-see-clause-replayed g c s h =
    let is = (rw c.in-Ok-New.field-0-is at c.in-Ok-New.ensures) s h in
    handed_unmade s c.args.command.now c.args.index c.args.protocol.now c.from_residual.result
    c.from_residual.ensures.1
    (sym (c.unhinted.ensures.ruling s) ∙ planned_allowed s c.unhinted.result c.in-Ok-New.planned is) h

pub returns-in_err-reserve_and_apply-clause-replayed : goal.returns-in_err-reserve_and_apply-clause-replayed
returns-in_err-reserve_and_apply-clause-replayed g c s h =
    let is = (rw c.in-Ok-New.field-0-is at c.in-Ok-New.ensures) s h in
    handed_unmade s c.args.command.now c.args.index c.reserve_and_apply.new.self
    c.from_residual-in_err-reserve_and_apply.result c.from_residual-in_err-reserve_and_apply.ensures.1
    (sym (c.unhinted.ensures.ruling s) ∙ planned_allowed s c.unhinted.result c.in-Ok-New.planned is)
    (stands_after c.args.protocol.now c.reserve_and_apply.new.self s c.in_err-reserve_and_apply.ensures.same h)

pub returns-clause-replayed : goal.returns-clause-replayed
returns-clause-replayed g c s h =
    let is = (rw c.in-Ok-New.field-0-is at c.in-Ok-New.ensures) s h in (
      sym (c.unhinted.ensures.ruling s) ∙ planned_allowed s c.unhinted.result c.in-Ok-New.planned is,
      subst (StandsFor c.reserve_and_apply.new.self) (ap (λ (k : Command). after s k) is.0 ∙ c.unhinted.ensures.after s)
          (c.in_ok-reserve_and_apply.ensures.made s h),
    )

pub returns-clause-noted : goal.returns-clause-noted
returns-clause-noted g c s h =
    let is = (rw c.in-Ok-New.field-0-is at c.in-Ok-New.ensures) s h in
    let adds = g.O.Onlooker.adds s.minute in
    let old = g.O.Onlooker.notes c.args.onlooker.now in
    let here = subst (λ (p : Core). StandsFor p s) (sym c.protocol-2.ensures) h in
    c.in_ok-see.ensures s here
    ∙ ap (λ (d : Done). old ++ adds d c.in-Ok-New.planned.events) (is.1.done
    ∙ ap (λ (k : Command). done_of s k.call) (is.0 ∙ c.unhinted.ensures.same) ∙ done_same s c.args.command.now.call)
    ∙ ap (λ (es : List PoolEvent). old ++ adds (done_of s c.args.command.now.call) es) (is.1.events
    ∙ ap (λ (k : Command). call_events s k.call) is.0 ∙ c.unhinted.ensures.events s)

pub returns-clause-counted : goal.returns-clause-counted
returns-clause-counted g c stays =
    let s = state_of c.args.protocol.now in
    let stands = subst (λ (p : Core). StandsFor p (state_of p)) c.protocol.ensures c.protocols_stand.ensures in
    counts_on c.args.protocol.now c.reserve_and_apply.new.self s c.args.command.now
    stays stands (returns-clause-replayed g c s stands).1

pub returns-clause-generation : goal.returns-clause-generation
returns-clause-generation g c stays =
    let s = state_of c.args.protocol.now in
    let stands = subst (λ (p : Core). StandsFor p (state_of p)) c.protocol.ensures c.protocols_stand.ensures in
    generation_stays c.args.protocol.now c.reserve_and_apply.new.self s c.args.command.now
    stays stands (returns-clause-replayed g c s stands).1

pub returns-clause-few : goal.returns-clause-few
returns-clause-few g c =
    let s = state_of c.args.protocol.now in
    let stands = subst (λ (p : Core). StandsFor p (state_of p)) c.protocol.ensures c.protocols_stand.ensures in
    let is = (rw c.in-Ok-New.field-0-is at c.in-Ok-New.ensures) s stands in
    c.in_ok-reserve_and_apply.ensures.few c.args.command.now (is.0 ∙ c.unhinted.ensures.same)
