use Rattle.std.proofs.Common.{◌≡◌, ◌≤◌, ◌+◌, [], length, vec_capacity}
use Rattle.liq_lock.specs.Views.{dealer}
use Rattle.liq_lock.specs.Seats.{lock_id, lock_seats}
use Rattle.liq_lock.proofs.Fresh.{Later}
use Rattle.liq_lock.proofs.lock.Lock.deal.Given as goal

abbrev pub invariant-loop : goal.invariant-loop
invariant-loop g l =
    (l.first.table_id ≡ lock_id l.self) × (l.first.me ≡ (dealer (l.counter + 1) (lock_seats l.self), []))
    × (length l.seats.items + 1 ≡ l.counter) × Later (lock_id l.self) l.seats.items
    × (lock_seats l.self ≤ vec_capacity l.seats)
