use Rattle.std.proofs.Common.{◌∙◌}
use Rattle.liq_book.specs.Seats.{items_seen, session_at}
use Rattle.liq_book.proofs.Chronicles.{faulted_behind}
use Rattle.liq_book.proofs.Learning.{calls_behind}
use Rattle.liq_book.proofs.publishing.Publishing.call_then_publish.Goals as goal

pub returns-then-changes_list-clause-calls : goal.returns-then-changes_list-clause-calls
returns-then-changes_list-clause-calls g c =
    let session = session_at c.args.seat in
    calls_behind session (items_seen c.publish-seat.result.0) (items_seen c.call-seat.result.0)
    (rw c.call-seat.ensures.number at c.publish-seat.ensures.others)
    ∙ (rw c.call-seat.ensures.number at c.call-seat.ensures.own)

pub returns-then-changes_list-clause-faulted : goal.returns-then-changes_list-clause-faulted
returns-then-changes_list-clause-faulted g c =
    let session = session_at c.args.seat in
    faulted_behind session (items_seen c.publish-seat.result.0) (items_seen c.call-seat.result.0)
    (rw c.call-seat.ensures.number at c.publish-seat.ensures.others)
    ∙ (rw c.call-seat.ensures.number at c.call-seat.ensures.faulted)
