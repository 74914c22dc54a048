use Rattle.std.proofs.Common.{vec_len}
use Rattle.test_book.proofs.tests.full.+seats_back.Given as goal

abbrev pub decreases-seats_back : goal.decreases-seats_back
decreases-seats_back g l = vec_len l.done
