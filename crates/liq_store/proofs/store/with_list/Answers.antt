use Rattle.std.proofs.Common.{refl}
use Rattle.liq_store.proofs.Going.{order_same, within_same}
use Rattle.liq_store.proofs.store.with_list.Goals as goal

pub invariant_of-store : goal.invariant_of-store
invariant_of-store g c =
    within_same g.D.Disk.at c.store.inside.side c.store.inside.taken c.store.inside.beside c.store.inside.protocol
    c.store.inside.protocol c.store.inside.stopped (record { image = refl; records = refl; list = refl })
    c.store.invariant

pub returns-in-Ok-clause-order : goal.returns-in-Ok-clause-order
returns-in-Ok-clause-order g c =
    order_same g.D.Disk.at c.store.inside.changes.items _ c.store.inside.side c.store.inside.taken
    c.store.inside.beside c.store.inside.protocol c.store.inside.protocol c.store.inside.stopped
    (record { image = refl; records = refl; list = refl }) c.store.invariant.order
