use Rattle.liq_book.specs.Seats.{calls_at, items_seen, session_at}
use Rattle.liq_book.proofs.Learning.{calls_after, faults_after}
use Rattle.liq_book.proofs.service.calls.ServiceDesk.call.Goals as goal

pub returns-clause-own : goal.returns-clause-own
returns-clause-own g c = rw c.call.ensures.session (calls_after g.O.Origin.state (session_at c.args.seat)
    (calls_at c.args.seat) c.args.request.now c.call.result.1 (items_seen c.args.seat) (items_seen c.call.result.0)
    c.call.ensures.answered)

pub returns-clause-faulted : goal.returns-clause-faulted
returns-clause-faulted g c = rw c.call.ensures.session (faults_after g.O.Origin.state (session_at c.args.seat)
    (calls_at c.args.seat) c.args.request.now c.call.result.1 (items_seen c.args.seat) (items_seen c.call.result.0)
    c.call.ensures.answered)
