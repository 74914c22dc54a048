use Rattle.std.proofs.Common.{subst}
use Rattle.liq_types.specs.Tables.{Table}
use Rattle.liq_types.specs.WellFormed.{Ascends}
use Rattle.liq_tables.proofs.Pages.{at-index, ascends-entries}
use Rattle.liq_tables.proofs.index.Index.get.Goals as goal

pub returns-clause-row : goal.returns-clause-row
returns-clause-row g c =
    at-index (λ x. x.now) c.get.result c.deref.result.now c.args.self.now c.self.inside.places c.self.inside.rows.items
    c.read.result c.args.key c.deref.ensures.value c.self.view_is c.self.invariant.few c.read.ensures
    c.get.ensures.lookup.0 c.get.ensures.lookup.1

pub returns-clause-ascend : goal.returns-clause-ascend
returns-clause-ascend g c =
    subst (λ (t : Table g.row.X.Denot). Ascends t) c.self.view_is
    (ascends-entries c.self.inside.places c.self.inside.rows.items)
