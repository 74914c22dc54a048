use Rattle.std.proofs.Common.{◌≤◌, length}
use Rattle.test_book.proofs.tests.full.script.Given as goal

abbrev pub invariant-loop-before : goal.invariant-loop-before
invariant-loop-before g l = length l.list ≤ l.before
