use Rattle.std.proofs.Common.{List, subst}
use Rattle.liq_types.specs.declared.events.ListChange.{ListChange}
use Rattle.liq_book.specs.Opened.{HasOpened}
use Rattle.liq_book.proofs.service.Service.new.Goals as goal

pub returns-in-Ok-new-2-clause-fresh : goal.returns-in-Ok-new-2-clause-fresh
returns-in-Ok-new-2-clause-fresh g c =
    let p = c.in-Ok-open_publisher.publisher in (
      p,
      subst (λ (changes : List ListChange). HasOpened changes p) c.changes.ensures
          c.in-Ok-open_publisher.ensures.opened,
      c.in-Ok-open_publisher.ensures.fresh,
    )
