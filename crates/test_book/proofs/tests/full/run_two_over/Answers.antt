use Rattle.liq_book.proofs.Pasts.{at_itself}
use Rattle.test_book.proofs.tests.full.run_two_over.Goals as goal

pub run_two-requires-clause-origin : goal.run_two-requires-clause-origin
run_two-requires-clause-origin g c κs within =
    at_itself g.D.Disk.at c.args.store (rw c.protocol.ensures at c.protocols_stand.ensures)
