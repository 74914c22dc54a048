use Rattle.std.proofs.Common.{◌∙◌, sym, ap}
use Rattle.liq_disk_pair.specs.declared.side.Side.{Side}
use Rattle.liq_disk_pair.specs.Sides.{on}
use Rattle.liq_store.specs.Within.{stored}
use Rattle.liq_store.proofs.Going.{closed_stands}
use Rattle.liq_store.proofs.store.Store.close.Goals as goal

pub returns-in-Left-clause-state : goal.returns-in-Left-clause-state
returns-in-Left-clause-state g c =
    let i = c.self.inside in
    closed_stands g.D.Disk.at (stored i.side i.taken i.beside i.protocol i.stopped i.changes.items) c.args.self
    c.self.view_is
    c.close-taken.result i.beside
    (c.close-taken.ensures ∙ ap (λ (x : Side). on x i.taken.disk i.beside) (sym c.in-Left.is))
    (ap (λ (x : Side). on x i.beside i.taken.disk) (sym c.in-Left.is))
    c.self.invariant.order

pub returns-in-Right-clause-state : goal.returns-in-Right-clause-state
returns-in-Right-clause-state g c =
    let i = c.self.inside in
    closed_stands g.D.Disk.at (stored i.side i.taken i.beside i.protocol i.stopped i.changes.items) c.args.self
    c.self.view_is
    i.beside c.close-taken.result
    (ap (λ (x : Side). on x i.taken.disk i.beside) (sym c.in-Right.is)) (c.close-taken.ensures
    ∙ ap (λ (x : Side). on x i.beside i.taken.disk) (sym c.in-Right.is))
    c.self.invariant.order
