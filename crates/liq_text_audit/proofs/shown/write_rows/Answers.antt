use Rattle.std.proofs.Common.{ℕ, List, ◌++◌, length, ap, ◌∙◌}
use Rattle.std.specs.List.{flat_map}
use Rattle.liq_text_audit.specs.Shown.{shown, line_of, last_line}
use Rattle.liq_text_audit.proofs.Lines.{no_more}
use Rattle.liq_text_audit.proofs.shown.write_rows.Goals as goal

pub returns : goal.returns
unfolding shown
returns c =
    let rows = c.args.rows.now in
    let whole = flat_map line_of rows in
    c.in_ok-put_last.ensures
    ∙ ap (λ (t : List ℕ). t ++ last_line c.count_within.result (length rows))
    (no_more line_of c.loop-row.text.items rows c.loop-row.row-index whole c.loop-row-test.false c.loop-row.invariant)
    ∙ ap (λ n. whole ++ last_line n (length rows)) c.count_within.ensures
