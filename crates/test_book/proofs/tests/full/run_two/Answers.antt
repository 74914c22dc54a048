use Rattle.test_book.proofs.Back.{seats_belong}
use Rattle.test_book.proofs.tests.full.run_two.Goals as goal

pub end-requires : goal.end-requires
end-requires g c =
    rw c.seats_back.ensures (seats_belong _ _ _ _ _ c.two_works-works.result.items c.in-Ok-run_sessions.done.items
    c.in-Ok-run_sessions.ensures.done)
