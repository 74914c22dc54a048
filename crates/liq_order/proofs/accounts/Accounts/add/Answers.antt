use Rattle.std.proofs.Common.{cond, ◌==◌, Some, ap, sym, ◌∙◌, subst, arith}
use Rattle.std.proofs.lemmas.List.Edits.{length-insert}
use Rattle.std.proofs.lemmas.List.Sums.{sum_by-insert}
use Rattle.liq_order.specs.Accounts.{Rows, Row, IsGapFor, AreRows, place_of, place_unless_marked, row_of}
use Rattle.liq_order.proofs.Marks.{none, one_if, places_put, real_place, unmarked_row}
use Rattle.liq_order.proofs.Rows.{more, strict_insert}
use Rattle.liq_order.proofs.accounts.Accounts.add.Goals as goal

pub unreachable-requires : goal.unreachable-requires
unreachable-requires c =
    omega (
      arith,
      c.in-Err.ensures.full,
      c.requires.room,
      c.self.inside.rows.ok,
      ap (λ (p : Rows). p.room) c.self.view_is,
      ap (λ (p : Rows). p.marked) c.self.view_is,
    )

pub invariant_of-self : goal.invariant_of-self
invariant_of-self c =
    let rows = c.self.inside.rows.items in
    let row : Row = (c.args.account, c.args.place) in
    let gap = subst (λ (p : Rows). IsGapFor p.rows c.args.account c.args.at) (sym c.self.view_is) c.requires.gap in
    subst (λ l. AreRows l c.self.inside.marked) (sym c.in-Ok.ensures.items) (record {
      strict = strict_insert rows c.args.account c.args.at gap c.args.place c.self.invariant.strict;
      counted = omega (
        arith,
        c.self.invariant.counted,
        sum_by-insert one_if rows c.args.at row,
        none row (unmarked_row row c.requires.node),
      );
      few = omega (arith, c.self.invariant.few, length-insert rows c.args.at row gap.in_range);
    })

pub returns-clause-places : goal.returns-clause-places
returns-clause-places c a =
    let rows = c.self.inside.rows.items in
    let gap = subst (λ (p : Rows). IsGapFor p.rows c.args.account c.args.at) (sym c.self.view_is) c.requires.gap in
    ap (λ l. place_unless_marked (row_of l a)) c.in-Ok.ensures.items
    ∙ places_put rows _ c.args.account c.args.place (more rows c.args.account c.args.at gap c.args.place) a
    ∙ ap (λ o. cond (c.args.account == a) o (place_unless_marked (row_of rows a)))
    (real_place c.args.place c.requires.node)
    ∙ ap (λ (p : Rows). cond (c.args.account == a) (Some c.args.place) (place_of p a)) c.self.view_is
