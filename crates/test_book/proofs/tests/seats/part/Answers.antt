use Rattle.liq_book.specs.Seats.{IsSeatOf}
use Rattle.test_book.proofs.Held.{all_front, all_last}
use Rattle.test_book.proofs.tests.seats.part.Goals as goal

pub returns-clause-others : goal.returns-clause-others
returns-clause-others g c = all_front (IsSeatOf c.args.service.now) _ _ _ c.in-Some.ensures.items c.requires

pub returns-clause-last : goal.returns-clause-last
returns-clause-last g c = all_last (IsSeatOf c.args.service.now) _ _ _ c.in-Some.ensures.items c.requires
