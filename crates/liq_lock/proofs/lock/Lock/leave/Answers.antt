use Rattle.std.proofs.Common.{ℕ, ◌+◌, ◌%◌, ◌^◌, List, sym, subst, arith}
use mathlib.Core.Option.{none}
use Rattle.std.specs.Prelude.{Option}
use Rattle.atomic_table.specs.Table.{Allows, step}
use Rattle.liq_lock.specs.Rule.{Ruled}
use Rattle.liq_lock.specs.Steps.{Leaves}
use Rattle.liq_lock.proofs.Turns.{leaves}
use Rattle.liq_lock.proofs.lock.Lock.leave.Goals as goal

pub fetch_add-served-requires : goal.fetch_add-served-requires
fetch_add-served-requires g c =
    let history = g.T.Chronicle.history in
    let maker = g.T.Chronicle.maker in
    let key : ℕ = c.args.self.now.table.shared.key in
    let slots : ℕ = c.args.self.now.table.shared.table_id.slots in
    let seat = c.args.seat.now in
    let turn = c.requires.turn in (
      c.requires.own,
      omega arith,
      subst (λ (l : List (ℕ × Option g.row.T.Denot)). Allows (Ruled history maker key) slots seat.id (
        seat.me.0,
        l,
      ) 1 (λ n. (n + 1) % 2 ^ 64) (Leaves (step slots 1 1 0 none) (seat.me.0, l))) (sym turn.value.1)
          (leaves history maker key slots seat.id seat.me.0 turn.value.0 turn.inside turn.alive turn.value.2),
    )
