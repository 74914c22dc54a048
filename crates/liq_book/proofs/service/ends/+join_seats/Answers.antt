use Rattle.std.proofs.Common.{◌∷◌, []}
use Rattle.std.proofs.lemmas.List.Elements.{Contains-append_left, Contains-append_right}
use Rattle.liq_lock.specs.History.{Behind}
use Rattle.liq_lock.specs.Seats.{seen_of, stands_of}
use Rattle.liq_book.specs.Items.{session_of}
use Rattle.liq_book.specs.Seats.{items_seen, session_at}
use Rattle.liq_book.proofs.Gathering.{all_with, behind_through}
use Rattle.liq_book.proofs.service.ends.+join_seats.Goals as goal

pub returns-clause-behind : goal.returns-clause-behind
returns-clause-behind g t c =
    behind_through _ _ _ _ _ (λ n there. rw c.join_seat.ensures.stands (Contains-append_left _ _ n there))
    c.join_seats.ensures.behind c.join_seat.ensures.behind_left

pub returns-clause-behind_seats : goal.returns-clause-behind_seats
returns-clause-behind_seats g t c =
    all_with (λ seat. Behind session_of (seen_of c.join_seats.result) (session_at seat ∷ []) (items_seen seat)) _ _ _
    c.in-Some.ensures.items c.join_seats.ensures.behind_seats
    (behind_through _ _ _ _ (session_at c.in-Some.next ∷ []) (λ n there. rw (
      c.join_seat.ensures.stands,
      c.in-Some.next.stands,
    ) (Contains-append_right (stands_of c.args.joined) (session_at c.in-Some.next ∷ []) n there))
    c.join_seats.ensures.behind (rw c.in-Some.next.stands at c.join_seat.ensures.behind_right))
