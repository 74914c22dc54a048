use Rattle.std.proofs.Common.{◌≡◌, ◌≤◌, ℕ, List, ◌∷◌, [], ap, subst, ◌∙◌}
use Rattle.std.specs.List.{Contains}
use Rattle.liq_lock.specs.History.{Behind}
use Rattle.liq_lock.specs.Seats.{seen_of}
use Rattle.liq_book.specs.Closing.{items_left}
use Rattle.liq_book.specs.declared.items.Item.{Item}
use Rattle.liq_book.specs.Items.{session_of}
use Rattle.liq_book.specs.Seats.{IsSeatOf, items_seen, session_at}
use Rattle.liq_book.proofs.Gathering.{all_with, all_without}
use Rattle.liq_book.proofs.Learning.{items_in}
use Rattle.liq_book.proofs.service.Service.close.Goals as goal

pub join_seats-seat-requires-clause-own : goal.join_seats-seat-requires-clause-own
join_seats-seat-requires-clause-own g c =
    (all_without (IsSeatOf c.args.self) _ _ _ c.in-Some.ensures.items c.requires.own).1

pub join_seats-seat-requires-clause-own_seats : goal.join_seats-seat-requires-clause-own_seats
join_seats-seat-requires-clause-own_seats g c =
    (all_without (IsSeatOf c.args.self) _ _ _ c.in-Some.ensures.items c.requires.own).0

pub returns-clause-seen : goal.returns-clause-seen
returns-clause-seen g c =
    let left : items_left c.close-in-Ok.result ≡ seen_of c.join_seats-seat.result = ap items_in
    c.close-in-Ok.ensures.same
    ∙ c.in-Ok.ensures.value in
    rw left (all_with (λ seat. Behind session_of (seen_of c.join_seats-seat.result) (session_at seat ∷ [])
    (items_seen seat)) _ _ _ c.in-Some.ensures.items c.join_seats-seat.ensures.behind_seats
    (rw c.in-Some.first.stands at c.join_seats-seat.ensures.behind))

pub returns-clause-sessions : goal.returns-clause-sessions
returns-clause-sessions g c i is =
    let within = c.in-Ok.ensures.makers i (subst (λ (items : List Item). Contains items i)
    (ap items_in c.close-in-Ok.ensures.same) is) in
    (within.0, subst (λ (most : ℕ). session_of i ≤ most) c.args.self.seats within.1)
