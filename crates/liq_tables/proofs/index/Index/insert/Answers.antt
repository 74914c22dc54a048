use Rattle.std.proofs.Common.{List, Result, Ok, Err, ap, ◌∙◌, arith}
use Rattle.std.specs.Prelude.{OnErr}
use Rattle.liq_types.specs.Tables.{Table, put}
use Rattle.liq_tables.specs.Pages.{entries}
use Rattle.liq_tables.proofs.Pages.{entries-same, entries-push}
use Rattle.liq_tables.proofs.index.Index.insert.Goals as goal

on_err : {T E Q : Type 0} (r : Result T E) → Q → OnErr r Q
on_err (Ok x) q = tt
on_err (Err e) q = q

pub returns-in_err-make_page-clause-err : goal.returns-in_err-make_page-clause-err
returns-in_err-make_page-clause-err g c =
    on_err c.from_residual.result
    (entries-same c.make_page.new.self c.self.inside.places c.self.inside.rows.items c.self.invariant.few
    c.in_err-make_page.ensures.kept ∙ c.self.view_is)

pub returns-in_default-clause-err : goal.returns-in_default-clause-err
returns-in_default-clause-err g c =
    ap (λ (r : List g.row.X.Denot). entries c.make_page.new.self r) c.in_default.ensures.items
    ∙ entries-same c.make_page.new.self c.self.inside.places c.self.inside.rows.items c.self.invariant.few
    c.in_ok-make_page.ensures.kept
    ∙ c.self.view_is

pub returns-clause-rows : goal.returns-clause-rows
returns-clause-rows g c =
    let rows = c.self.inside.rows in
    ap (λ (r : List g.row.X.Denot). entries c.write.new.self r) c.in-Ok.ensures.items
    ∙ entries-push c.write.new.self c.self.inside.places rows.items c.args.key c.args.row c.self.invariant
    (omega (arith, c.if-number.false, c.len-number.ensures, rows.ok.0)) (omega (
      arith,
      c.write.ensures.written,
      c.len-number.ensures,
      rows.ok.0,
    )) (λ k apart. c.write.ensures.others k apart ∙ c.in_ok-make_page.ensures.kept k)
    ∙ ap (λ (t : Table g.row.X.Denot). put t c.args.key c.args.row) c.self.view_is
