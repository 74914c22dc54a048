use Rattle.std.proofs.Common.{◌≡◌, ◌<◌, ◌≤◌, ◌+◌, ◌^◌, length, vec_capacity}
use Rattle.std.specs.Prelude.{All}
use Rattle.liq_lock.specs.Seats.{lock_id, seat_id, AreFresh}
use Rattle.test_sessions.proofs.tests.clerk.turns.hired.Given as goal

abbrev pub invariant-loop-seat : goal.invariant-loop-seat
invariant-loop-seat l =
    AreFresh (lock_id l.lock) l.seats.items × (length l.seats.items < 2 ^ 32)
    × (length l.clerks.items + length l.seats.items ≤ vec_capacity l.clerks)
    × All (λ clerk. seat_id clerk.seat ≡ lock_id l.lock) l.clerks.items

abbrev pub decreases-loop-seat : goal.decreases-loop-seat
decreases-loop-seat l = goal.left-loop-seat l
