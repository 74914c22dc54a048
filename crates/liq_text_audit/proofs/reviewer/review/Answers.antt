use Rattle.std.proofs.Common.{◌≤◌, List, rules, subst, refl, sym, ◌∙◌}
use Rattle.liq_types.specs.declared.amounts.TheConstants.{LIM}
use Rattle.liq_types.specs.declared.events.PoolEvent.{PoolEvent}
use Rattle.liq_types.specs.PlainLedger.{offsets_coll}
use Rattle.liq_types.specs.State.{opening_with}
use Rattle.liq_audit_laws.proofs.Auditing.{auditable}
use Rattle.liq_rule_step.specs.Events.{events}
use Rattle.liq_text_audit.proofs.Gains.{all_pay}
use Rattle.liq_text_audit.proofs.Rows.{all_enclose, all_within}
use Rattle.liq_text_audit.proofs.Runs.{finished, gained_little, paid_little}
use Rattle.liq_text_audit.proofs.reviewer.review.Goals as goal

pub audited-requires-clause-auditable : goal.audited-requires-clause-auditable
audited-requires-clause-auditable c =
    let made = c.in_ok-made.ensures.done in
    let told = c.deref-2.result.now in
    let all = finished c.args.limit c.requires.limit c.args.commands.now c.requires.no_rotation made.state made.replays
    told (c.deref-2.ensures.value ∙ made.events_are) in
    auditable told all.lawful (subst (λ (es : List PoolEvent). offsets_coll es ≤ LIM) (c.deref.ensures.value
    ∙ sym c.deref-2.ensures.value) c.in_ok-limit_gains.ensures.sum) all.few

pub audited-requires-clause-fits : goal.audited-requires-clause-fits
audited-requires-clause-fits c =
    let made = c.in_ok-made.ensures.done in
    let told = c.deref-2.result.now in
    let all = finished c.args.limit c.requires.limit c.args.commands.now c.requires.no_rotation made.state made.replays
    told (c.deref-2.ensures.value ∙ made.events_are) in
    paid_little made.state told all (subst (λ (es : List PoolEvent). offsets_coll es ≤ LIM) (c.deref.ensures.value
    ∙ sym c.deref-2.ensures.value) c.in_ok-limit_gains.ensures.sum)

pub audited-requires-clause-pays : goal.audited-requires-clause-pays
audited-requires-clause-pays c =
    let made = c.in_ok-made.ensures.done in
    let told = c.deref-2.result.now in
    let all = finished c.args.limit c.requires.limit c.args.commands.now c.requires.no_rotation made.state made.replays
    told (c.deref-2.ensures.value ∙ made.events_are) in
    all_pay c.in_ok-made.made.protocol made.state made.stands told (gained_little made.state told all
    (subst (λ (es : List PoolEvent). offsets_coll es ≤ LIM) (c.deref.ensures.value
    ∙ sym c.deref-2.ensures.value) c.in_ok-limit_gains.ensures.sum)) all.owners

pub returns-clause-shares : goal.returns-clause-shares
returns-clause-shares c s replays =
    let told = events (opening_with c.args.limit) c.args.commands.now in
    all_enclose s told (finished c.args.limit c.requires.limit c.args.commands.now c.requires.no_rotation s replays told
    refl) (subst (λ (es : List PoolEvent). offsets_coll es ≤ LIM) (c.deref.ensures.value
    ∙ c.in_ok-made.ensures.done.events_are) c.in_ok-limit_gains.ensures.sum)

pub returns-clause-within : goal.returns-clause-within
returns-clause-within c s replays =
    let told = events (opening_with c.args.limit) c.args.commands.now in
    all_within s told (finished c.args.limit c.requires.limit c.args.commands.now c.requires.no_rotation s replays told
    refl) (subst (λ (es : List PoolEvent). offsets_coll es ≤ LIM) (c.deref.ensures.value
    ∙ c.in_ok-made.ensures.done.events_are) c.in_ok-limit_gains.ensures.sum)

pub returns-in_err-rows-clause-fault : goal.returns-in_err-rows-clause-fault
returns-in_err-rows-clause-fault c = search (
  rules,
  c.in_ok-made.ensures.done,
  c.in_ok-limit_gains.ensures.within,
  c.audited.ensures.limit,
  c.in_err-rows.ensures.limit,
  c.in_err-rows.is,
  c.from_residual-in_err-rows.ensures,
  c.deref.ensures.value,
  c.deref-2.ensures.value,
)

pub returns-in_err-write_rows-clause-fault : goal.returns-in_err-write_rows-clause-fault
returns-in_err-write_rows-clause-fault c = search (
  rules,
  c.in_err-write_rows.is,
  c.from_residual-in_err-write_rows.ensures,
)

pub returns-clause-text : goal.returns-clause-text
returns-clause-text c = search (
  rules,
  c.in_ok-made.ensures.done,
  c.in_ok-limit_gains.ensures.within,
  c.in_ok-rows.ensures.within,
  c.in_ok-rows.ensures.rows,
  c.in_ok-write_rows.ensures,
  c.deref.ensures.value,
  c.deref-2.ensures.value,
  c.deref-3.ensures.value,
)
