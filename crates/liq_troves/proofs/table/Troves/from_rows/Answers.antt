use Rattle.std.proofs.Common.{sym, ap, ◌∙◌, subst, arith}
use Rattle.liq_types.specs.declared.figures.Trove.{Trove}
use Rattle.liq_types.specs.Tables.{Table, rows}
use Rattle.liq_tables.specs.Rows.{is_used_trove}
use Rattle.liq_troves.specs.Kept.{AreKept}
use Rattle.liq_troves.proofs.Kept.{kept_from_rows, rows_seen}
use Rattle.liq_troves.proofs.table.Troves.from_rows.Goals as goal

pub invariant_of-result : goal.invariant_of-result
invariant_of-result c =
    let same = c.in_ok-table.ensures ∙ ap (λ (t : Table Trove). rows is_used_trove t) c.deref.ensures.value
    ∙ rows_seen c.args.rows.items c.args.sums c.requires in
    subst (λ (t : Table Trove). AreKept t c.args.sums c.len-count.result) (sym same)
    (kept_from_rows c.args.rows.items c.args.sums c.len-count.result (omega (
      arith,
      c.len-count.ensures,
      c.args.rows.ok.0,
    )) c.requires)

pub returns-clause-rows : goal.returns-clause-rows
returns-clause-rows c =
    c.in_ok-table.ensures ∙ ap (λ (t : Table Trove). rows is_used_trove t) c.deref.ensures.value
    ∙ rows_seen c.args.rows.items c.args.sums c.requires
