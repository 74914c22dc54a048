use Rattle.liq_book.proofs.Pasts.{at_itself}
use Rattle.test_book.proofs.tests.seats.two_seats_over.Goals as goal

pub two_seats-requires-clause-origin : goal.two_seats-requires-clause-origin
two_seats-requires-clause-origin g c =
    at_itself g.D.Disk.at c.args.store (rw c.protocol.ensures at c.protocols_stand.ensures)
