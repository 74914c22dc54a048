use Rattle.std.proofs.Common.{◌<◌, get_or, length, ap, sym, ◌∙◌, subst}
use Rattle.std.proofs.lemmas.List.{get_or_read}
use Rattle.liq_order.specs.Accounts.{Rows, Row, place_unless_marked, unless_marked}
use Rattle.liq_order.proofs.Marks.{found_at}
use Rattle.liq_order.proofs.Rows.{nowhere, row_gap}
use Rattle.liq_order.proofs.accounts.Accounts.find.Goals as goal

pub returns-in-Ok-clause-place : goal.returns-in-Ok-clause-place
returns-in-Ok-clause-place g c =
    let rows = c.self.inside.rows.items in
    let now = c.args.self.now in
    let same = ap (λ (p : Rows). p.rows) c.self.view_is in
    let less = subst (λ l. c.in-Ok.at < length l) (sym same) c.in-Ok.ensures.found.in_range in
    let read = get_or_read rows c.in-Ok.at c.index.result.now less c.index.ensures nowhere in
    c.unmarked.ensures
    ∙ ap (λ (r : Row). unless_marked r.1) (read ∙ ap (λ l. get_or l c.in-Ok.at nowhere) same)
    ∙ sym (found_at now.rows c.in-Ok.ensures.kept.strict c.args.account c.in-Ok.at c.in-Ok.ensures.found)

pub returns-in-Err-clause-place : goal.returns-in-Err-clause-place
returns-in-Err-clause-place g c =
    sym (ap place_unless_marked (row_gap c.args.self.now.rows c.args.account c.in-Err.field-0 c.in-Err.ensures.absent))
