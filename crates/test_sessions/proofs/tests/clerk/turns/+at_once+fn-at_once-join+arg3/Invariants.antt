use Rattle.std.proofs.Common.{vec_len, ◌+◌, ◌*◌}
use Rattle.test_sessions.proofs.tests.clerk.turns.+at_once+fn-at_once-join+arg3.Given as goal

abbrev pub decreases-at_once : goal.decreases-at_once
decreases-at_once g l = 2 * vec_len l.others

abbrev pub decreases-join+arg3 : goal.decreases-join+arg3
decreases-join+arg3 g l = 2 * vec_len l.others + 1
