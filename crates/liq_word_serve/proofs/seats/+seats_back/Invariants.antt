use Rattle.std.proofs.Common.{vec_len}
use Rattle.liq_word_serve.proofs.seats.+seats_back.Given as goal

abbrev pub decreases-seats_back : goal.decreases-seats_back
decreases-seats_back g l = vec_len l.done
