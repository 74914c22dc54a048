use Rattle.test_book.proofs.tests.seats.two_seats.Goals as goal

pub part-seats-requires : goal.part-seats-requires
part-seats-requires g c = λ k d within. (c.in-Ok.ensures.seats k d within).own
