-- What others follow of a planned command, as lists.
use Rattle.std.specs.Prelude.{List, []}
use Rattle.liq_types.specs.declared.events.ListChange.{ListChange}
use Rattle.liq_types.specs.declared.events.PoolEvent.{PoolEvent}
use Rattle.liq_core.specs.declared.told.ListChanges.{ListChanges}
use Rattle.liq_core.specs.declared.told.ListChanges.TheVariants as changes
use Rattle.liq_core.specs.declared.told.PoolEvents.{PoolEvents}
use Rattle.liq_core.specs.declared.told.PoolEvents.TheVariants as events

abbrev pub events_in : PoolEvents → List PoolEvent
events_in events.Nothing = []
events_in (events.One event) = event
events_in (events.Many list) = list.items

abbrev pub changes_in : ListChanges → List ListChange
changes_in changes.Nothing = []
changes_in (changes.One change) = change
changes_in (changes.Two both) = both
changes_in (changes.Many list) = list.items
