use Rattle.std.proofs.Common.{◌∙◌, sym, ap, List, arith}
use Rattle.liq_lock.specs.declared.view.View.{View}
use Rattle.liq_lock.specs.Views.{view_in, is_at_rest}
use Rattle.liq_lock.proofs.Rests.{at_rest}
use Rattle.liq_lock.proofs.Waits.{draws}
use Rattle.liq_lock.proofs.lock.Lock.draw.Goals as goal

pub fetch_add-number-requires : goal.fetch_add-number-requires
fetch_add-number-requires g c =
    let seat = c.into_seat-seat.result in
    let r = at_rest seat.me.0 (sym (ap (λ (l : List (View g.row.T-Item.Denot)). is_at_rest (view_in l))
    c.into_seat-seat.ensures.2) ∙ c.requires.at_rest) in (
      c.into_seat-seat.ensures.0 ∙ c.requires.own,
      omega arith,
      draws g.T.Chronicle.history g.T.Chronicle.maker c.args.self.now.table.shared.key
          c.args.self.now.table.shared.table_id.slots seat.id seat.me r.ticket r.calm r.alive,
    )
