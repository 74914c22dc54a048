use Rattle.std.proofs.Common.{vec_len}
use Rattle.liq_sessions.proofs.at_once.+fn-run_all-join+arg3+run_all.Given as goal

abbrev pub decreases-join+arg3 : goal.decreases-join+arg3
decreases-join+arg3 g l = vec_len l.work

abbrev pub decreases-run_all : goal.decreases-run_all
decreases-run_all g l = vec_len l.work
