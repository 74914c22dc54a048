use Rattle.liq_core.specs.Core.{state_of}
use Rattle.test_book.proofs.tests.full.run_two_over.Given as goal

abbrev pub ghosts-run_two : goal.ghosts-run_two
ghosts-run_two g a = record {
  state = state_of a.store.core;
  left = g.D.Disk.at a.store.left;
  right = g.D.Disk.at a.store.right;
}
