use Rattle.std.proofs.Common.{◌≡◌, ℕ, ◌+◌, ap, sym, ◌∙◌, subst, take}
use Rattle.liq_types.specs.Tables.{Table, rows}
use Rattle.liq_tables.specs.WithRoom.{written}
use Rattle.liq_tables.proofs.Filling.{fill_next}
use Rattle.liq_tables.proofs.reserved.Reserved.from_entries.Goals as goal

pub loop-row-preserved : goal.loop-row-preserved
loop-row-preserved g c =
    let all = c.args.entries.now in
    let i = c.loop-row.row-index in
    let row = c.row-item.result in
    c.write.ensures.rows
    ∙ ap (λ (t : Table g.row.X.Denot). written g.X.Row.used t row.0 row.1) (c.in_ok-reserve.ensures.rows
    ∙ c.loop-row.invariant)
    ∙ subst (λ (e : ℕ × g.row.X.Denot). written g.X.Row.used (rows g.X.Row.used (take i all)) e.0 e.1
    ≡ rows g.X.Row.used (take (i + 1) all)) (sym c.row-item.is)
    (fill_next g.X.Row.used all i row c.loop-row-test.true c.requires)
