use Rattle.std.proofs.Common.{ℕ, ◌∙◌, List, ◌∷◌, sym, ap, subst}
use Rattle.std.specs.Prelude.{Option, Some}
use Rattle.atomic_table.specs.Table.{Me, rest}
use Rattle.liq_lock.specs.declared.view.View.{View}
use Rattle.liq_lock.specs.History.{Behind}
use Rattle.liq_lock.specs.Seats.{stands_of, seen_of}
use Rattle.liq_lock.proofs.Moved.{Some_is}
use Rattle.liq_lock.proofs.Turns.{held_first}
use Rattle.liq_lock.proofs.lock.Lock.take.Goals as goal

pub exchange-requires : goal.exchange-requires
exchange-requires g c =
    let e = c.wait_for.ensures.enters in
    let held = ap (λ (m : Me (Option g.row.T.Denot) (View g.row.T-Item.Denot)). m.1) e.1 in (
      c.wait_for.ensures.own,
      (Some e.0, held ∙ ap (λ (l : List (ℕ × Option g.row.T.Denot)). (0, Some e.0) ∷ l) (sym (ap rest held))),
    )

pub returns-clause-behind : goal.returns-clause-behind
returns-clause-behind g c =
    let e = c.wait_for.ensures.enters in
    let held = ap (λ (m : Me (Option g.row.T.Denot) (View g.row.T-Item.Denot)). m.1) e.1 in
    let is = Some_is e.0 c.in-Some.value (sym (ap held_first held) ∙ ap held_first c.exchange.ensures.2
    ∙ c.in-Some.is) in
    let was = ap (λ (m : Me (Option g.row.T.Denot) (View g.row.T-Item.Denot)). m.0) c.draw-seat.ensures.drew.1 in
    subst (λ (x : g.row.T.Denot). Behind g.T.Chronicle.maker (g.T.Chronicle.history x) (stands_of c.args.seat)
    (seen_of c.args.seat)) is
    (subst (λ (v : View g.row.T-Item.Denot). Behind g.T.Chronicle.maker (g.T.Chronicle.history e.0) v.stands v.seen)
    was e.2)
