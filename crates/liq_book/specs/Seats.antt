-- What contracts name of a service and of its seats.
use Rattle.std.specs.Prelude.{ℕ, ◌≡◌, ◌+◌, ◌<◌, List, [], length, slice_index_or}
use Rattle.liq_lock.specs.declared.lock.Lock.{Lock}
use Rattle.liq_lock.specs.Seats.{lock_id, seat_id, seen_of}
use Rattle.liq_book.specs.declared.items.Item.{Item}
use Rattle.liq_book.specs.declared.origin.Origin.{Ghosts}
use Rattle.liq_book.specs.declared.seat.BookSeat.{BookSeat}
use Rattle.liq_book.specs.declared.service.Service.{Service}

module _ {O : Type 0} {o : Ghosts O} where
  abbrev pub session_at : BookSeat O o → ℕ
  session_at seat = seat.session

  -- how many of the session's calls got a reply
  abbrev pub calls_at : BookSeat O o → ℕ
  calls_at seat = seat.calls

  -- the beginning of the chronicle that the seat has seen
  abbrev pub items_seen : BookSeat O o → List Item
  items_seen seat = seen_of seat.seat

  -- the seat of this session as it was made: it has seen nothing
  pub record IsNewSeat
      {T : Type 0} (lock : Lock T Item) (session : ℕ) (seat : BookSeat O o) : Type 0 where
    pub own : seat_id seat.seat ≡ lock_id lock
    pub session_is : session_at seat ≡ session
    pub calls : calls_at seat ≡ 0
    pub seen : items_seen seat ≡ []

  -- seats as they were made, for the sessions from 1 on
  abbrev pub AreSeated : {T : Type 0} → Lock T Item → List (BookSeat O o) → Type 0
  AreSeated lock seats =
      (k : ℕ) (d : BookSeat O o) → k < length seats
      → IsNewSeat lock (k + 1) (slice_index_or seats k d)

module _ {D O : Type 0} where
  -- how many seats the service was made with
  abbrev pub sessions_of : Service D O → ℕ
  sessions_of service = service.sessions

module _ {D O : Type 0} {o : Ghosts O} where
  abbrev pub IsSeatOf : Service D O → BookSeat O o → Type 0
  IsSeatOf service seat = seat_id seat.seat ≡ lock_id service.lock

  abbrev pub AreNewSeats : Service D O → List (BookSeat O o) → Type 0
  AreNewSeats service seats = AreSeated service.lock seats
