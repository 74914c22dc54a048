use Rattle.std.proofs.Common.{vec_len}
use Rattle.liq_word_serve.proofs.seats.+seats_of.Given as goal

abbrev pub decreases-seats_of : goal.decreases-seats_of
decreases-seats_of g l = vec_len l.works
