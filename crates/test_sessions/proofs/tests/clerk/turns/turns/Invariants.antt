use Rattle.std.proofs.Common.{◌≡◌}
use Rattle.liq_lock.specs.Seats.{lock_id, seat_id}
use Rattle.test_sessions.proofs.tests.clerk.turns.turns.Given as goal

abbrev pub invariant-loop : goal.invariant-loop
invariant-loop g l = seat_id l.clerk.seat ≡ lock_id l.lock
