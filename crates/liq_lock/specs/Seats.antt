-- What contracts name of a lock, a seat and a turn.
use Rattle.std.specs.Prelude.{◌≡◌, ℕ, ◌+◌, ◌<◌, List, [], ◌∷◌, length, slice_index_or}
use Rattle.atomic_table.specs.Seated.{TableId}
use Rattle.liq_lock.specs.declared.chronicle.Chronicle.{Ghosts}
use Rattle.liq_lock.specs.declared.seat.LockSeat.{LockSeat}
use Rattle.liq_lock.specs.declared.lock.Lock.{Lock}
use Rattle.liq_lock.specs.declared.lock.Held.{Held}
use Rattle.liq_lock.specs.Views.{view_in}

module _ {I : Type 0} where
  -- the lock of a seat
  abbrev pub seat_id : LockSeat I → TableId
  seat_id seat = seat.badge.table_id

  abbrev pub number_of : LockSeat I → ℕ
  number_of seat = (view_in seat.badge.views).number

  -- the numbers for which a seat stands
  abbrev pub stands_of : LockSeat I → List ℕ
  stands_of seat = (view_in seat.badge.views).stands

  -- the beginning of the history that a seat has seen
  abbrev pub seen_of : LockSeat I → List I
  seen_of seat = (view_in seat.badge.views).seen

  abbrev pub shares_of : LockSeat I → ℕ
  shares_of seat = (view_in seat.badge.views).shares

  -- a seat of the lock as it was made: it stands for its number and one share, and has seen nothing
  pub record IsFresh (id : TableId) (number : ℕ) (seat : LockSeat I) : Type 0 where
    pub own : seat_id seat ≡ id
    pub number_is : number_of seat ≡ number
    pub stands : stands_of seat ≡ number ∷ []
    pub seen : seen_of seat ≡ []
    pub share : shares_of seat ≡ 1

  -- the seats of the lock as they were made, numbered from 1 in their order
  abbrev pub AreFresh : TableId → List (LockSeat I) → Type 0
  AreFresh id seats = (k : ℕ) (d : LockSeat I) → k < length seats
      → IsFresh id (k + 1) (slice_index_or seats k d)

module _ {T I : Type 0} where
  abbrev pub lock_id : Lock T I → TableId
  lock_id lock = lock.table.shared.table_id

  -- the number of seats that a lock was made with
  abbrev pub lock_seats : Lock T I → ℕ
  lock_seats lock = lock.seats

module _ {T I : Type 0} {g : Ghosts T I} where
  abbrev pub held_id : Held T I g → TableId
  held_id held = held.seat.table_id

  abbrev pub number_in : Held T I g → ℕ
  number_in held = held.seat.me.0.number

  abbrev pub stands_in : Held T I g → List ℕ
  stands_in held = held.seat.me.0.stands

  abbrev pub seen_in : Held T I g → List I
  seen_in held = held.seat.me.0.seen

  abbrev pub shares_in : Held T I g → ℕ
  shares_in held = held.seat.me.0.shares
