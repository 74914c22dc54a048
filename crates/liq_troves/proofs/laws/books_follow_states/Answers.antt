use Rattle.liq_troves.proofs.BooksOf.{lift_books, place_books, spread_books, snap_books}
use Rattle.liq_troves.proofs.laws.books_follow_states.Goals as goal

pub returns-clause-lift : goal.returns-clause-lift
returns-clause-lift c = lift_books

pub returns-clause-place : goal.returns-clause-place
returns-clause-place c = place_books

pub returns-clause-spread : goal.returns-clause-spread
returns-clause-spread c = spread_books

pub returns-clause-snap : goal.returns-clause-snap
returns-clause-snap c = snap_books
