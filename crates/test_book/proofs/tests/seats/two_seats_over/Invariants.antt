use Rattle.liq_core.specs.Core.{state_of}
use Rattle.test_book.proofs.tests.seats.two_seats_over.Given as goal

abbrev pub ghosts-two_seats : goal.ghosts-two_seats
ghosts-two_seats g a = record {
  state = state_of a.store.core;
  left = g.D.Disk.at a.store.left;
  right = g.D.Disk.at a.store.right;
}
