use Rattle.liq_book.proofs.Calling.{begins}
use Rattle.liq_book.proofs.Telling.{opens}
use Rattle.liq_book.proofs.book.Book.new.Goals as goal

pub invariant_of-result : goal.invariant_of-result
invariant_of-result g c =
    rw c.new.ensures.items (
      begins _ g.met.D.Disk.seen_may_stay _ _ _ _ c.requires.going c.requires.origin
          c.stopped.ensures.order,
      opens _ _ _ _ (c.requires.listed _ c.requires.origin.state) c.requires.opened.0
          c.requires.opened.1,
    )
