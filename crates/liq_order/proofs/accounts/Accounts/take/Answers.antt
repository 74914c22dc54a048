use Rattle.std.proofs.Common.{◌≡◌, ◌<◌, get_or, length, Option, None, Some, IsSome, ap, sym, ◌∙◌, subst}
use Rattle.std.proofs.lemmas.List.{get_or_read}
use Rattle.liq_order.specs.declared.places.NodeNo.{NodeNo}
use Rattle.liq_order.specs.Accounts.{Rows, Row, place_unless_marked}
use Rattle.liq_order.proofs.Marks.{found_at, the_place}
use Rattle.liq_order.proofs.Rows.{nowhere, row_gap}
use Rattle.liq_order.proofs.accounts.Accounts.take.Goals as goal

pub unreachable-requires : goal.unreachable-requires
unreachable-requires g c =
    clash (ap place_unless_marked (row_gap c.args.self.now.rows c.args.account c.in-Err.field-0
    c.in-Err.ensures.absent)) c.requires where
      clash : {o : Option NodeNo} → o ≡ None → IsSome o → ⊥
      clash e s = cc

pub returns-clause-place : goal.returns-clause-place
returns-clause-place g c =
    let rows = c.self.inside.rows.items in
    let now = c.args.self.now in
    let same = ap (λ (p : Rows). p.rows) c.self.view_is in
    let less = subst (λ l. c.in-Ok.at < length l) (sym same) c.in-Ok.ensures.found.in_range in
    let read = get_or_read rows c.in-Ok.at c.index.result.now less c.index.ensures nowhere in
    let at = found_at now.rows c.in-Ok.ensures.kept.strict c.args.account c.in-Ok.at c.in-Ok.ensures.found in
    let there = subst (λ (o : Option NodeNo). IsSome o) at c.requires in
    ap (λ (r : Row). Some r.1) (read ∙ ap (λ l. get_or l c.in-Ok.at nowhere) same) ∙ sym (the_place _ there) ∙ sym at
