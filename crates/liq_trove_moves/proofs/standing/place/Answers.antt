use Rattle.std.proofs.Common.{ap, sym, ◌∙◌, subst, arith, rules}
use Rattle.std.proofs.lemmas.Int.{to_z-of_z}
use Rattle.liq_types.specs.Ranked.{IsTight, with_ranked}
use Rattle.liq_troves.proofs.Standing.{place_stands}
use Rattle.liq_troves.specs.Rows.{key_by}
use Rattle.liq_trove_moves.specs.Books.{books_kept}
use Rattle.liq_trove_moves.proofs.Entries.{few_put}
use Rattle.liq_trove_moves.proofs.standing.place.Goals as goal
use mir.Syntax.{w128}
use mir.Val.{SFits}

pub set-row-requires-clause-limit : goal.set-row-requires-clause-limit
set-row-requires-clause-limit g c =
    let next = place_stands (books_kept c.args.troves.now c.args.pools.now) c.args.account c.args.coll c.args.debt
    c.requires.absent c.requires.some c.requires.least c.requires.stand in
    omega (arith, next.active_coll, c.requires.coll)

pub returns-clause-list : goal.returns-clause-list
returns-clause-list g c =
    let fits : SFits w128 c.key.result = search rules in
    let put_in = simp to_z-of_z at c.insert.ensures.list in
    put_in
    ∙ ap (λ k. with_ranked c.args.order.now.entries (k, c.args.account)) (c.key.ensures
    ∙ ap key_by c.set-row.ensures.row)

pub returns-clause-tight : goal.returns-clause-tight
returns-clause-tight g c t =
    let fits : SFits w128 c.key.result = search rules in
    let few = simp to_z-of_z at c.insert.ensures.tight in
    few (subst (λ k. IsTight c.args.order.now.entries (k, c.args.account) c.args.hint.now.prev c.args.hint.now.next)
    (sym (c.key.ensures ∙ ap key_by c.set-row.ensures.row)) t)

pub returns-clause-few : goal.returns-clause-few
returns-clause-few g c =
    let fits : SFits w128 c.key.result = search rules in
    let put_in = simp to_z-of_z at c.insert.ensures.list in
    let few = simp to_z-of_z at c.insert.ensures.tight in
    few_put c.args.order.now.entries _ c.key.result c.args.account c.args.hint.now _ _ c.requires.unlisted put_in few
