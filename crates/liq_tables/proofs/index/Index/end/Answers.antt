use Rattle.std.proofs.Common.{sym, subst, ◌∙◌, ap, arith, ◌*◌, length}
use Rattle.liq_types.specs.Tables.{Table, at}
use Rattle.liq_tables.specs.Pages.{row_at}
use Rattle.liq_tables.specs.declared.places.TheConstants.{KEYS}
use Rattle.liq_types.specs.WellFormed.{Ascends}
use Rattle.liq_tables.proofs.Listed.{at_behind}
use Rattle.liq_tables.proofs.Pages.{ascends-entries}
use Rattle.liq_tables.proofs.index.Index.end.Goals as goal

pub returns-clause-above : goal.returns-clause-above
returns-clause-above g c key past =
    ap (λ (t : Table g.row.X.Denot). at t key) (sym c.self.view_is)
    ∙ at_behind (row_at c.self.inside.places c.self.inside.rows.items) key 0 (KEYS * length c.self.inside.places)
    (omega (arith, past, c.end.ensures.end))

pub returns-clause-ascend : goal.returns-clause-ascend
returns-clause-ascend g c =
    subst (λ (t : Table g.row.X.Denot). Ascends t) c.self.view_is
    (ascends-entries c.self.inside.places c.self.inside.rows.items)
