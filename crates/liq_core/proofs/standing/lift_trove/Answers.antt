use Rattle.std.proofs.Common.{List, sym, ap, ◌∙◌, subst}
use Rattle.std.specs.Prelude.{IsSome}
use Rattle.liq_types.specs.declared.figures.Trove.{Trove}
use Rattle.liq_types.specs.Ranked.{Ranked, key_in, without_ranked}
use Rattle.liq_types.specs.Tables.{Table}
use Rattle.liq_order.specs.Order.{order_by}
use Rattle.liq_order.proofs.Ranking.{listed_where, left_order}
use Rattle.liq_trove_moves.specs.Books.{books_kept}
use Rattle.liq_trove_moves.proofs.Others.{others_of}
use Rattle.liq_core.proofs.standing.lift_trove.Goals as goal

pub lift-requires-clause-listed : goal.lift-requires-clause-listed
lift-requires-clause-listed c =
    subst (λ (l : List Ranked). IsSome (key_in l c.args.account)) (sym c.requires.held.list)
    (listed_where c.args.troves.now.table.rows c.args.account c.requires.held.stand.ascend c.requires.there)

pub returns-clause-others : goal.returns-clause-others
returns-clause-others c = others_of c.args.pools.now c.lift.new.pools (books_kept c.lift.new.troves c.lift.new.pools)
    c.lift.ensures.rest

pub returns-clause-list : goal.returns-clause-list
returns-clause-list c =
    c.lift.ensures.list
    ∙ ap (λ (l : List Ranked). without_ranked l c.args.account) c.requires.held.list
    ∙ sym (left_order c.args.troves.now.table.rows c.args.account c.requires.held.stand.ascend)
    ∙ ap (λ (t : Table Trove). order_by t) (sym c.lift.ensures.rows)
