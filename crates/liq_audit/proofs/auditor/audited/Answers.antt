use Rattle.std.proofs.Common.{◌≡◌, List, ap, sym, ◌∙◌, arith, take, get_or}
use Rattle.std.proofs.lemmas.List.{take_all}
use Rattle.liq_types.specs.declared.events.PoolEvent.{PoolEvent}
use Rattle.liq_types.specs.declared.events.PoolEvent.TheVariants as event
use Rattle.liq_types.proofs.Watching.{no_watch, watch_after, watched}
use Rattle.liq_audit.specs.declared.enclosure.Enclosure.{Enclosure}
use Rattle.liq_audit.specs.Enclosure.{nothing_enclosed, enclosure_after, enclosed}
use Rattle.liq_audit.specs.declared.watcher.Watcher.{Watcher}
use Rattle.liq_audit.specs.Watching.{watcher_after}
use Rattle.liq_audit.proofs.Watchers.{watcher_of, watcher-after}
use Rattle.liq_audit.proofs.Auditing.{row_made, balance_allowed, gain_allowed, fold_more, weight_more, small_at, parts_at, rise_at, own_at, short_at}
use Rattle.liq_audit.proofs.auditor.audited.Goals as goal

pub after-enclosure-requires-clause-small : goal.after-enclosure-requires-clause-small
after-enclosure-requires-clause-small c =
    small_at c.args.events.now c.requires.auditable c.args.engine.now.account c.loop-event.event-index
    (omega arith) c.loop-event.enclosure c.loop-event.invariant.0

pub after-enclosure-requires-clause-parts : goal.after-enclosure-requires-clause-parts
after-enclosure-requires-clause-parts c =
    parts_at c.args.events.now c.requires.auditable c.args.engine.now.account c.loop-event.event-index (omega arith)
    (event.Own 0 0 0 0 0) c.loop-event-test.true

pub after-watcher-requires : goal.after-watcher-requires
after-watcher-requires c =
    short_at c.args.events.now c.requires.auditable c.args.engine.now.account c.loop-event.event-index (omega arith)
    (event.Own 0 0 0 0 0) c.loop-event-test.true c.requires.offsets c.loop-event.watcher c.loop-event.invariant.1
    c.loop-event.invariant.2

pub loop-event-preserved : goal.loop-event-preserved
loop-event-preserved c =
    let events = c.args.events.now in
    let account = c.args.engine.now.account in
    let k = c.loop-event.event-index in
    let d = event.Own 0 0 0 0 0 in (
      c.after-enclosure.ensures ∙ ap (λ (e : Enclosure). enclosure_after account e (get_or events k d))
          c.loop-event.invariant.0
          ∙ sym (fold_more (enclosure_after account) nothing_enclosed events k d c.loop-event-test.true),
      c.after-watcher.ensures.after ∙ ap (λ (v : Watcher). watcher_after account v (get_or events k d))
          c.loop-event.invariant.1
          ∙ watcher-after account (watched account (take k events)) (get_or events k d)
          (rise_at events c.requires.auditable account k (omega arith) d c.loop-event-test.true)
          ∙ ap watcher_of (sym (fold_more (watch_after account) no_watch events k d c.loop-event-test.true)),
      weight_more events k d c.loop-event.watcher.weight c.after-watcher.result.weight c.loop-event-test.true
          c.loop-event.invariant.2 c.after-watcher.ensures.weight,
    )

pub balance_allowance-requires-clause-own_events : goal.balance_allowance-requires-clause-own_events
balance_allowance-requires-clause-own_events c =
    let few = own_at c.args.events.now c.requires.auditable c.args.engine.now.account c.loop-event.event-index
    (omega arith) c.loop-event.watcher c.loop-event.invariant.1 in
    omega (arith, few, c.requires.auditable.few)

pub gain_allowance-requires-clause-own_events : goal.gain_allowance-requires-clause-own_events
gain_allowance-requires-clause-own_events c =
    let few = own_at c.args.events.now c.requires.auditable c.args.engine.now.account c.loop-event.event-index
    (omega arith) c.loop-event.watcher c.loop-event.invariant.1 in
    omega (arith, few, c.requires.auditable.few)

pub returns : goal.returns
returns c =
    let events = c.args.events.now in
    let account = c.args.engine.now.account in
    let all : take c.loop-event.event-index events ≡ events =
    take_all c.loop-event.event-index events c.loop-event-test.false in
    let watcher : c.loop-event.watcher ≡ watcher_of (watched account events) = c.loop-event.invariant.1
    ∙ ap (λ (es : List PoolEvent). watcher_of (watched account es)) all in
    row_made events c.args.engine.now c.loop-event.enclosure c.balance_allowance.result c.gain_allowance.result
    (c.loop-event.invariant.0 ∙ ap (λ (es : List PoolEvent). enclosed account es) all)
    (c.balance_allowance.ensures ∙ balance_allowed account events c.loop-event.watcher watcher)
    (c.gain_allowance.ensures ∙ gain_allowed account events c.loop-event.watcher watcher)
