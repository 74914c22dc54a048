use Rattle.std.proofs.Common.{◌≡◌}
use Rattle.liq_lock.specs.Seats.{lock_id, seat_id}
use Rattle.bench.proofs.lock.locked.turns.Given as goal

abbrev pub invariant-loop : goal.invariant-loop
invariant-loop g l = seat_id l.seat ≡ lock_id l.lock
