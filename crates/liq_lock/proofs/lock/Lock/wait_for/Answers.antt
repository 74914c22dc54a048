use Rattle.std.proofs.Common.{ℕ, ◌∙◌, ◌≤◌, sym, ap, subst, arith}
use Rattle.std.specs.Prelude.{Option}
use Rattle.atomic_table.specs.Table.{Me}
use Rattle.liq_lock.specs.declared.view.View.{View}
use Rattle.liq_lock.specs.Steps.{Enters}
use Rattle.liq_lock.proofs.Waits.{looks}
use Rattle.liq_lock.proofs.lock.Lock.wait_for.Goals as goal

pub load-serving-requires : goal.load-serving-requires
load-serving-requires g c =
    let m = c.loop.seat.me in
    let same = c.loop.invariant.3 in
    let w = c.requires.waiting in (
      c.loop.invariant.2 ∙ c.requires.own,
      omega arith,
      looks g.T.Chronicle.history g.T.Chronicle.maker c.args.self.now.table.shared.key
          c.args.self.now.table.shared.table_id.slots c.loop.seat.id m w.ticket.0
          (ap (λ (z : Me (Option g.row.T.Denot) (View g.row.T-Item.Denot)). z.0.ticket) same ∙ w.ticket.1)
          (ap (λ (z : Me (Option g.row.T.Denot) (View g.row.T-Item.Denot)). z.0.inside) same ∙ w.calm)
          (subst (λ (z : ℕ). 1 ≤ z) (sym (ap (λ (z : Me (Option g.row.T.Denot) (View g.row.T-Item.Denot)). z.0.shares)
          same)) w.alive),
    )

pub returns-then-serving-number-clause-enters : goal.returns-then-serving-number-clause-enters
returns-then-serving-number-clause-enters g c =
    let same = c.loop.invariant.3 in
    let w = c.requires.waiting in
    subst (λ (z : Me (Option g.row.T.Denot) (View g.row.T-Item.Denot)). Enters g.T.Chronicle.history g.T.Chronicle.maker
    z c.load-serving.new.seat.me) same
    ((c.load-serving.ensures.2 w.ticket.0 (ap (λ (z : Me (Option g.row.T.Denot) (View g.row.T-Item.Denot)). z.0.ticket)
    same ∙ w.ticket.1)).0 (c.if-serving-number.true ∙ w.ticket.2))
