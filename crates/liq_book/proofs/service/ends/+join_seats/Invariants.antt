use Rattle.std.proofs.Common.{vec_len}
use Rattle.liq_book.proofs.service.ends.+join_seats.Given as goal

abbrev pub decreases-join_seats : goal.decreases-join_seats
decreases-join_seats g l = vec_len l.seats
