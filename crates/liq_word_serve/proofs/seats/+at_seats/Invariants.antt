use Rattle.std.proofs.Common.{vec_len}
use Rattle.liq_word_serve.proofs.seats.+at_seats.Given as goal

abbrev pub decreases-at_seats : goal.decreases-at_seats
decreases-at_seats g l = vec_len l.scripts
