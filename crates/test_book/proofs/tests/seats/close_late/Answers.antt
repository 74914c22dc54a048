use Rattle.liq_book.specs.Seats.{IsSeatOf}
use Rattle.liq_book.proofs.Gathering.{all_with}
use Rattle.test_book.proofs.tests.seats.close_late.Goals as goal

pub close-requires-2 : goal.close-requires-2
close-requires-2 g c =
    let out = c.in-Err.ensures.out in
    record {
      own = rw out.0 (all_with (IsSeatOf c.args.service) _ _ _ c.put_back.ensures (rw out.1 c.requires.seats)
          c.requires.other);
    }
