use Rattle.std.proofs.Common.{◌≡◌, ℕ, refl, sym, ap, subst, ◌∙◌, ◌+◌, List, [], ◌∷◌, ◌++◌}
use Rattle.std.specs.Prelude.{Ok, is_ok}
use Rattle.std.proofs.lemmas.Result.{err_from_is_err_and}
use Rattle.liq_types.specs.Ranked.{Ranked, last_account}
use Rattle.liq_order.specs.Listed.{AreDistinct}
use Rattle.liq_liquidation.specs.declared.lowest.LowestFault.{LowestFault}
use Rattle.liq_liquidation.specs.declared.lowest.LowestFault.TheVariants.{NoMemory}
use Rattle.liq_liquidation.specs.declared.one.Victim.{Victim}
use Rattle.liq_liquidation.specs.Moment.{IsFaultOf, Moment, lowest_from, next_at, plan_from, victim_from}
use Rattle.liq_liquidation.proofs.Walking.{Reached, row_struck, walk_first, walk_on, walk_struck, reached_listed, reached_before, reached_next, plan_made, walk_ends, walk_stops}
use Rattle.liq_liquidation.proofs.lowest.lowest_from.Goals as goal
use Rattle.liq_liquidation.proofs.lowest.lowest_from.Goals.{else-loop-test, then-loop-test+in-Err-strike}
use Rattle.liq_order.proofs.Ranking.{order_distinct}

pub strike-requires-clause-trove : goal.strike-requires-clause-trove
strike-requires-clause-trove c = λ account is. row_struck (record {
  figures = c.args.figures;
  troves = c.args.troves.now.table.rows;
}) account c.requires.sound

pub loop-init : goal.loop-init
loop-init c =
    let start : Moment = record { figures = c.args.figures; troves = c.args.troves.now.table.rows } in
    let list = c.args.order.now.entries in
    let distinct = subst AreDistinct (sym c.requires.order) (order_distinct c.args.troves.now.table.rows
    c.requires.sound.troves.ascend) in
    let items = c.in_ok-add.ensures ∙ ap (λ (l : List Victim). l ++ c.in-Ok.first ∷ []) c.new-victims.ensures.items in
    let next = sym (ap (λ (l : List Ranked). victim_from c.args.figures c.args.troves.now.table.rows (last_account l))
    (sym c.requires.order) ∙ ap (victim_from c.args.figures c.args.troves.now.table.rows) (sym c.last.ensures)
    ∙ sym c.strike.ensures.answer) in
    subst (λ (l : List Victim). Reached start list c.args.n 1 c.strike.new.self l c.in-Ok.first.account) (sym items)
    (walk_first start list c.args.n c.strike.new.self c.requires.order c.requires.sound distinct c.in-Ok.first
    c.requires.some (sym next ∙ c.in-Ok.is) c.in-Ok.ensures.after)

-- there was no memory for what is planned
no_memory : (start : Moment) (count : ℕ) (v : Victim) (fault : LowestFault) → fault ≡ NoMemory → next_at start ≡ Ok v
    → IsFaultOf (plan_from start count) fault
no_memory start count v fault is first = subst (IsFaultOf (plan_from start count)) (sym is)
    (ap is_ok (plan_made start count v (lowest_from start count) first refl))

pub returns-in_err-add : goal.returns-in_err-add
returns-in_err-add c =
    let start : Moment = record { figures = c.args.figures; troves = c.args.troves.now.table.rows } in
    let first = sym (ap (λ (l : List Ranked). victim_from c.args.figures c.args.troves.now.table.rows (last_account l))
    (sym c.requires.order) ∙ ap (victim_from c.args.figures c.args.troves.now.table.rows) (sym c.last.ensures)
    ∙ sym c.strike.ensures.answer) in
    let p = err_from_is_err_and c.from_residual.result c.from_residual.ensures.1 in
    rw (p.1, p.2) (no_memory start c.args.n c.in-Ok.first c.in_err-add.field-0.0 c.in_err-add.ensures (sym first
    ∙ c.in-Ok.is))

pub returns-in_err-add-in-Ok-strike : goal.returns-in_err-add-in-Ok-strike
returns-in_err-add-in-Ok-strike c =
    let start : Moment = record { figures = c.args.figures; troves = c.args.troves.now.table.rows } in
    let first = sym (ap (λ (l : List Ranked). victim_from c.args.figures c.args.troves.now.table.rows (last_account l))
    (sym c.requires.order) ∙ ap (victim_from c.args.figures c.args.troves.now.table.rows) (sym c.last.ensures)
    ∙ sym c.strike.ensures.answer) in
    let p = err_from_is_err_and c.from_residual-in_err-add-in-Ok-strike.result
    c.from_residual-in_err-add-in-Ok-strike.ensures.1 in
    rw (p.1, p.2) (no_memory start c.args.n c.in-Ok.first c.in_err-add-in-Ok-strike.field-0.0
    c.in_err-add-in-Ok-strike.ensures (sym first ∙ c.in-Ok.is))

pub before-requires : goal.before-requires
before-requires c =
    let start : Moment = record { figures = c.args.figures; troves = c.args.troves.now.table.rows } in
    let list = c.args.order.now.entries in
    let distinct = subst AreDistinct (sym c.requires.order) (order_distinct c.args.troves.now.table.rows
    c.requires.sound.troves.ascend) in
    reached_listed start list c.args.n c.loop.counter c.loop.figures c.loop.victims.items c.loop.last c.loop.invariant
    distinct

pub strike-requires-in-loop-clause-trove : goal.strike-requires-in-loop-clause-trove
strike-requires-in-loop-clause-trove c =
    let start : Moment = record { figures = c.args.figures; troves = c.args.troves.now.table.rows } in
    let list = c.args.order.now.entries in
    let distinct = subst AreDistinct (sym c.requires.order) (order_distinct c.args.troves.now.table.rows
    c.requires.sound.troves.ascend) in
    λ account is.
    walk_struck start list c.args.n c.loop.counter c.loop.figures c.loop.victims.items c.loop.invariant.walk
    distinct account
    (sym (reached_before start list c.args.n c.loop.counter c.loop.figures c.loop.victims.items c.loop.last
    c.loop.invariant distinct) ∙ sym c.before-in-loop.ensures ∙ is)

pub loop-preserved : goal.loop-preserved
loop-preserved c =
    let start : Moment = record { figures = c.args.figures; troves = c.args.troves.now.table.rows } in
    let list = c.args.order.now.entries in
    let distinct = subst AreDistinct (sym c.requires.order) (order_distinct c.args.troves.now.table.rows
    c.requires.sound.troves.ascend) in
    let told = reached_next start list c.args.n c.loop.counter c.loop.figures c.loop.victims.items c.loop.last
    c.loop.invariant distinct in
    let next = sym told ∙ ap (victim_from c.loop.figures c.args.troves.now.table.rows) (sym c.before-in-loop.ensures)
    ∙ sym c.strike-in-loop.ensures.answer ∙ c.in-Ok-strike.is in
    subst (λ (l : List Victim). Reached start list c.args.n (c.loop.counter + 1) c.strike-in-loop.new.self l
    c.in-Ok-strike.victim.account) (sym c.in_ok-add-in-Ok-strike.ensures)
    (walk_on start list c.args.n c.loop.counter c.loop.figures c.strike-in-loop.new.self c.loop.victims.items
    c.loop.invariant.walk distinct c.in-Ok-strike.victim c.loop-test.true next c.in-Ok-strike.ensures.after)

pub returns : goal.returns
returns c =
    let start : Moment = record { figures = c.args.figures; troves = c.args.troves.now.table.rows } in
    let list = c.args.order.now.entries in
    let distinct = subst AreDistinct (sym c.requires.order) (order_distinct c.args.troves.now.table.rows
    c.requires.sound.troves.ascend) in
    let first = sym (ap (λ (l : List Ranked). victim_from c.args.figures c.args.troves.now.table.rows (last_account l))
    (sym c.requires.order) ∙ ap (victim_from c.args.figures c.args.troves.now.table.rows) (sym c.last.ensures)
    ∙ sym c.strike.ensures.answer) in
    let made = plan_made start c.args.n c.in-Ok.first c.loop.victims.items (sym first ∙ c.in-Ok.is) in
    elim c.loop-test.branch [
      | else-loop-test w ↦ made (walk_ends start list c.args.n c.loop.counter c.loop.figures c.loop.victims.items
          c.loop.invariant.walk w.loop-test.false)
      | then-loop-test+in-Err-strike w ↦
          let told = reached_next start list c.args.n c.loop.counter c.loop.figures c.loop.victims.items c.loop.last
          c.loop.invariant distinct in
          let next = sym told ∙ ap (victim_from c.loop.figures c.args.troves.now.table.rows)
          (sym w.before-in-loop.ensures) ∙ sym w.strike-in-loop.ensures.answer ∙ w.in-Err-strike.is in
          made (walk_stops start list c.args.n c.loop.counter c.loop.figures c.loop.victims.items c.loop.invariant.walk
          w.in-Err-strike.field-0 next)
    ]
