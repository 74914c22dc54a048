use Rattle.liq_book.specs.Seats.{IsSeatOf}
use Rattle.liq_book.proofs.Gathering.{all_with}
use Rattle.test_book.proofs.tests.seats.call_by_last.Goals as goal

pub returns : goal.returns
returns g c =
    all_with (IsSeatOf c.args.service.now) _ _ _ c.put_back.ensures c.part-seats.ensures.others c.call-seat.ensures.own
