use Rattle.std.proofs.Common.{rules, ℕ, ◌≡◌, ◌+◌, ◌-◌, ◌<◌, ◌∙◌, [], sym, ap, subst, arith}
use Rattle.std.specs.Prelude.{Option}
use Rattle.atomic_table.specs.Seated.{TableId}
use Rattle.atomic_table.specs.Table.{Me}
use Rattle.liq_lock.specs.declared.view.View.{View}
use Rattle.liq_lock.specs.Seats.{IsFresh, lock_id}
use Rattle.liq_lock.specs.Views.{dealt, keeping}
use Rattle.liq_lock.proofs.Fresh.{Later, is_newcomer, keeping_on, last_dealt, later_push}
use Rattle.liq_lock.proofs.Histories.{lt-ltb}
use Rattle.liq_lock.proofs.Parts.{splits}
use Rattle.liq_lock.proofs.lock.Lock.deal.Goals as goal

pub split_seat-next-requires : goal.split_seat-next-requires
split_seat-next-requires g c =
    let seat = c.loop.first in
    let is = c.loop.invariant.1 in
    let n : ℕ = c.args.self.now.seats in
    let k : ℕ = c.loop.counter in
    let more : 1 < n + 2 - (k + 1) = omega arith in (
      c.loop.invariant.0,
      omega arith,
      splits g.T.Chronicle.history g.T.Chronicle.maker c.args.self.now.table.shared.key seat.id seat.me.0
          (ap (λ (m : Me (Option g.row.T.Denot) (View g.row.T-Item.Denot)). m.0.splitting) is
          ∙ lt-ltb 1 (n + 2 - (k + 1)) more)
          (ap (λ (m : Me (Option g.row.T.Denot) (View g.row.T-Item.Denot)). m.0.ticket) is)
          (ap (λ (m : Me (Option g.row.T.Denot) (View g.row.T-Item.Denot)). m.0.inside) is),
    )

pub loop-preserved : goal.loop-preserved
loop-preserved g c =
    let is = c.loop.invariant.1 in
    let n : ℕ = c.args.self.now.seats in
    let k : ℕ = c.loop.counter in
    let split = c.split_seat-next.ensures in
    let own = split.3 ∙ c.loop.invariant.0 in
    let number = ap (λ (m : Me (Option g.row.T.Denot) (View g.row.T-Item.Denot)). m.0.number) split.4
    ∙ ap (λ (m : Me (Option g.row.T.Denot) (View g.row.T-Item.Denot)). m.0.next) is in
    let count = c.loop.invariant.2 in (
      split.0 ∙ c.loop.invariant.0,
      split.2 ∙ ap (λ (m : Me (Option g.row.T.Denot) (View g.row.T-Item.Denot)). (keeping m.0, m.1)) is
          ∙ ap (λ (v : View g.row.T-Item.Denot). (v, [])) (keeping_on (k + 1) n),
      search rules,
      subst (Later (lock_id c.args.self.now)) (sym c.push_reserved.ensures.items)
          (later_push (lock_id c.args.self.now) c.loop.seats.items c.seated.result (k + 1) c.loop.invariant.3
          (omega arith)
          (subst (λ (z : TableId × ℕ). IsFresh z.0 z.1 c.seated.result) (λ i. (own i, number i)) c.seated.ensures)),
      search rules,
    )

pub seated-requires : goal.seated-requires
seated-requires g c =
    is_newcomer c.split_seat-next.result.me (c.loop.counter + 1) 0
    (c.split_seat-next.ensures.4 ∙ ap (λ (m : Me (Option g.row.T.Denot) (View g.row.T-Item.Denot)). (
      dealt m.0,
      [],
    )) c.loop.invariant.1)

pub seated-requires-2 : goal.seated-requires-2
seated-requires-2 g c =
    let all : c.loop.counter ≡ c.args.self.now.seats = omega arith in
    is_newcomer c.loop.first.me 1 (c.loop.counter + 1)
    (c.loop.invariant.1 ∙ ap (λ (v : View g.row.T-Item.Denot). (v, []))
    (last_dealt c.loop.counter c.args.self.now.seats all))
