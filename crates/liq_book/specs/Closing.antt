-- What a service leaves.
use Rattle.std.specs.Prelude.{List}
use Rattle.liq_book.specs.declared.items.Item.{Item}
use Rattle.liq_book.specs.declared.service.Closed.{Closed}
use Rattle.liq_book.specs.Booked.{Booked}
use Rattle.liq_book.specs.Items.{chronicle}

module _ {D O : Type 0} where
  -- the book of a service that is closed
  abbrev pub booked_by : Closed D O → Booked D
  booked_by closed = record { store = closed.store; entries = closed.history; halt = closed.halt }

  -- its chronicle: the entries, and the halt behind them
  abbrev pub items_left : Closed D O → List Item
  items_left closed = chronicle closed.history closed.halt
