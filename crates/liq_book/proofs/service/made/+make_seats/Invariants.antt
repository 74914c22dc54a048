use Rattle.std.proofs.Common.{vec_len}
use Rattle.liq_book.proofs.service.made.+make_seats.Given as goal

abbrev pub decreases-make_seats : goal.decreases-make_seats
decreases-make_seats g l = vec_len l.seats
