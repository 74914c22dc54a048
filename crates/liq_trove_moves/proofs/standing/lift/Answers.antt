use Rattle.std.proofs.Common.{ℕ, ◌≤◌, ap, arith, List, length, sym, subst, ◌∙◌}
use Rattle.std.specs.Prelude.{◌==◌, not}
use Rattle.liq_trove_moves.specs.Books.{books_kept}
use Rattle.liq_trove_moves.proofs.Taken.{taken}
use Rattle.liq_trove_moves.proofs.standing.lift.Goals as goal
use Rattle.liq_types.specs.declared.figures.Trove.{Trove}
use Rattle.liq_types.specs.Tables.{Table, at}
use Rattle.liq_types.specs.Ranked.{Ranked, key_in}
use Rattle.liq_types.proofs.Lookups.{at-without_same}
use Rattle.liq_order.proofs.Listing.{key_without}
use Rattle.liq_trove_moves.proofs.Entries.{filter_within}

pub entire-coll-requires-clause-mark_coll : goal.entire-coll-requires-clause-mark_coll
entire-coll-requires-clause-mark_coll c =
    let w = taken (books_kept c.args.troves.now c.args.pools.now) c.sums.result.now c.args.account c.remove-trove.result
    c.sums.ensures.sums c.remove-trove.ensures.row c.requires.stand in
    w.mark_coll

pub entire-coll-requires-clause-mark_debt : goal.entire-coll-requires-clause-mark_debt
entire-coll-requires-clause-mark_debt c =
    let w = taken (books_kept c.args.troves.now c.args.pools.now) c.sums.result.now c.args.account c.remove-trove.result
    c.sums.ensures.sums c.remove-trove.ensures.row c.requires.stand in
    w.mark_debt

pub entire-coll-requires-clause-coll : goal.entire-coll-requires-clause-coll
entire-coll-requires-clause-coll c =
    let w = taken (books_kept c.args.troves.now c.args.pools.now) c.sums.result.now c.args.account c.remove-trove.result
    c.sums.ensures.sums c.remove-trove.ensures.row c.requires.stand in
    omega (arith, w.coll, w.pending_coll, c.requires.coll)

pub entire-coll-requires-clause-debt : goal.entire-coll-requires-clause-debt
entire-coll-requires-clause-debt c =
    let w = taken (books_kept c.args.troves.now c.args.pools.now) c.sums.result.now c.args.account c.remove-trove.result
    c.sums.ensures.sums c.remove-trove.ensures.row c.requires.stand in
    omega (arith, w.debt, w.pending_debt, c.requires.debt)

pub overflow_sub-pools : goal.overflow_sub-pools
overflow_sub-pools c =
    let w = taken (books_kept c.args.troves.now c.args.pools.now) c.sums.result.now c.args.account c.remove-trove.result
    c.sums.ensures.sums c.remove-trove.ensures.row c.requires.stand in
    w.coll

pub overflow_sub-pools-2 : goal.overflow_sub-pools-2
overflow_sub-pools-2 c =
    let w = taken (books_kept c.args.troves.now c.args.pools.now) c.sums.result.now c.args.account c.remove-trove.result
    c.sums.ensures.sums c.remove-trove.ensures.row c.requires.stand in
    w.debt

pub overflow_sub-pools-4 : goal.overflow_sub-pools-4
overflow_sub-pools-4 c =
    let w = taken (books_kept c.args.troves.now c.args.pools.now) c.sums.result.now c.args.account c.remove-trove.result
    c.sums.ensures.sums c.remove-trove.ensures.row c.requires.stand in
    omega (arith, w.pending_coll, ap (λ (own : ℕ × ℕ). own.0) c.entire-coll.ensures)

pub overflow_sub-pools-6 : goal.overflow_sub-pools-6
overflow_sub-pools-6 c =
    let w = taken (books_kept c.args.troves.now c.args.pools.now) c.sums.result.now c.args.account c.remove-trove.result
    c.sums.ensures.sums c.remove-trove.ensures.row c.requires.stand in
    omega (arith, w.pending_debt, ap (λ (own : ℕ × ℕ). own.1) c.entire-coll.ensures)

pub returns-clause-coll : goal.returns-clause-coll
returns-clause-coll c =
    let w = taken (books_kept c.args.troves.now c.args.pools.now) c.sums.result.now c.args.account c.remove-trove.result
    c.sums.ensures.sums c.remove-trove.ensures.row c.requires.stand in
    omega (arith, w.coll, w.pending_coll, ap (λ (own : ℕ × ℕ). own.0) c.entire-coll.ensures)

pub returns-clause-debt : goal.returns-clause-debt
returns-clause-debt c =
    let w = taken (books_kept c.args.troves.now c.args.pools.now) c.sums.result.now c.args.account c.remove-trove.result
    c.sums.ensures.sums c.remove-trove.ensures.row c.requires.stand in
    omega (arith, w.debt, w.pending_debt, ap (λ (own : ℕ × ℕ). own.1) c.entire-coll.ensures)

pub returns-clause-gone : goal.returns-clause-gone
returns-clause-gone c =
    ap (λ (t : Table Trove). at t c.args.account) c.remove-trove.ensures.rows
    ∙ at-without_same c.args.troves.now.table.rows c.args.account c.requires.stand.ascend

pub returns-clause-unlisted : goal.returns-clause-unlisted
returns-clause-unlisted c =
    ap (λ (l : List Ranked). key_in l c.args.account) c.remove.ensures.list
    ∙ key_without c.args.order.now.entries c.args.account

pub returns-clause-shorter : goal.returns-clause-shorter
returns-clause-shorter c =
    subst (λ (l : List Ranked). length l ≤ length c.args.order.now.entries) (sym c.remove.ensures.list)
    (filter_within (λ (e : Ranked). not (e.1 == c.args.account)) c.args.order.now.entries)
