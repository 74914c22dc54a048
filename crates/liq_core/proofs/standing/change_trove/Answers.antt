use Rattle.std.proofs.Common.{ap, ◌∙◌, arith}
use Rattle.liq_troves.specs.Standing.{Books, place}
use Rattle.liq_troves.specs.Rows.{set_row}
use Rattle.liq_trove_moves.specs.Books.{books_kept}
use Rattle.liq_trove_moves.proofs.Others.{others_of}
use Rattle.liq_core.proofs.Lending.{left_absent, left_stand, left_coll, left_debt}
use Rattle.liq_core.proofs.Placing.{not_listed, placed_list}
use Rattle.liq_core.proofs.standing.change_trove.Goals as goal

pub place-requires-clause-absent : goal.place-requires-clause-absent
place-requires-clause-absent g c =
    left_absent (books_kept c.args.troves.now c.args.pools.now) c.requires.held.stand c.args.account
    c.lift_trove.new.pools c.lift_trove.new.troves c.lift_trove.ensures.books

pub place-requires-clause-stand : goal.place-requires-clause-stand
place-requires-clause-stand g c =
    left_stand (books_kept c.args.troves.now c.args.pools.now) c.requires.held.stand c.args.account
    c.lift_trove.new.pools c.lift_trove.new.troves c.lift_trove.ensures.books

pub place-requires-clause-coll : goal.place-requires-clause-coll
place-requires-clause-coll g c =
    let same = left_coll (books_kept c.args.troves.now c.args.pools.now) c.requires.held.stand c.args.account
    c.lift_trove.new.pools c.lift_trove.new.troves c.lift_trove.ensures.books in
    omega (arith, c.requires.active_coll, same)

pub place-requires-clause-debt : goal.place-requires-clause-debt
place-requires-clause-debt g c =
    let same = left_debt (books_kept c.args.troves.now c.args.pools.now) c.requires.held.stand c.args.account
    c.lift_trove.new.pools c.lift_trove.new.troves c.lift_trove.ensures.books in
    omega (arith, c.requires.active_debt, same)

pub returns-clause-books : goal.returns-clause-books
returns-clause-books g c = c.place.ensures.books
    ∙ ap (λ (b : Books). place b c.args.account c.args.plan.now.coll c.args.plan.now.debt) c.lift_trove.ensures.books

pub place-requires-clause-unlisted : goal.place-requires-clause-unlisted
place-requires-clause-unlisted g c =
    not_listed c.lift_trove.new.troves.table.rows c.lift_trove.new.order.entries c.args.account
    c.lift_trove.ensures.list
    (left_absent (books_kept c.args.troves.now c.args.pools.now) c.requires.held.stand c.args.account
    c.lift_trove.new.pools c.lift_trove.new.troves c.lift_trove.ensures.books)

pub returns-clause-others : goal.returns-clause-others
returns-clause-others g c =
    let first = c.lift_trove.ensures.others in
    let second = others_of c.lift_trove.new.pools c.place.new.pools (books_kept c.place.new.troves c.place.new.pools)
    c.place.ensures.rest in
    record {
      reserve = second.reserve ∙ first.reserve;
      surplus = second.surplus ∙ first.surplus;
      fee_coll = second.fee_coll ∙ first.fee_coll;
      fee_lusd = second.fee_lusd ∙ first.fee_lusd;
    }

pub returns-clause-list : goal.returns-clause-list
returns-clause-list g c =
    placed_list c.lift_trove.new.troves.table.rows c.place.new.troves.table.rows c.lift_trove.new.order.entries
    c.place.new.order.entries c.args.account (set_row c.lift_trove.new.troves.sums c.args.plan.now.coll
    c.args.plan.now.debt)
    (left_absent (books_kept c.args.troves.now c.args.pools.now) c.requires.held.stand c.args.account
    c.lift_trove.new.pools c.lift_trove.new.troves c.lift_trove.ensures.books)
    c.lift_trove.ensures.list
    c.place.ensures.list
    (ap (λ (b : Books). b.troves) c.place.ensures.books)
