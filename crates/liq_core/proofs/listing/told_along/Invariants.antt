use Rattle.std.proofs.Common.{◌-◌, ◌∷◌, map, length}
use Rattle.liq_core.specs.Entries.{put_entry}
use Rattle.liq_core.proofs.FromNothing.{Ahead}
use Rattle.liq_core.proofs.listing.told_along.Given as goal

abbrev pub invariant-loop-next : goal.invariant-loop-next
invariant-loop-next g l = Ahead l.nodes l.next l.changes.items (l.fn.words ∷ map put_entry l.order.entries)

abbrev pub decreases-loop-next : goal.decreases-loop-next
decreases-loop-next g l = length (l.fn.words ∷ map put_entry l.order.entries) - length l.changes.items
