use Rattle.std.proofs.Common.{◌≡◌, ◌≤◌, vec_capacity, length, drop}
use Rattle.liq_sessions.proofs.Running.{IsUnderway}
use Rattle.liq_sessions.proofs.session.run_session.Given as goal

abbrev pub invariant-loop-before : goal.invariant-loop-before
invariant-loop-before g l =
    IsUnderway (g.K.Desk.belongs l.desk) g.K.Desk.number g.K.Desk.own g.K.Desk.faulted l.fn.work.script.requests
    l.fn.work.seat l.seat l.replies.items
    × (length l.replies.items ≡ l.before)
    × (length l.fn.work.script.requests ≤ vec_capacity l.replies)
    × (l.asked ≡ drop l.before l.fn.work.script.requests)
