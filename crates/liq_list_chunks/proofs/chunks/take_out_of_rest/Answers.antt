use Rattle.std.proofs.Common.{◌<◌, List, length, subst, ◌∙◌, arith}
use Rattle.liq_types.specs.Ranked.{Ranked}
use Rattle.liq_list_chunks.proofs.Standing.{is_seen, left_absent, left_at}
use Rattle.liq_list_chunks.proofs.chunks.take_out_of_rest.Goals as goal

pub remove-requires : goal.remove-requires
remove-requires c =
    let there = subst (λ (l : List Ranked). c.place_in-at.result < length l) c.deref-2.ensures.value
    (c.stands_at.ensures.within c.if-not-stands_at.false) in
    omega (arith, c.args.rest.now.ok.0)

pub returns-clause-left : goal.returns-clause-left
returns-clause-left c =
    let seen = is_seen c.args.rest.now.items c.args.entry c.place_in-at.result c.stands_at.result c.deref.result.now
    c.deref-2.result.now c.deref.ensures.value c.deref-2.ensures.value c.place_in-at.ensures c.stands_at.ensures.within
    c.stands_at.ensures.same in
    let there = seen.within c.if-not-stands_at.false in
    c.remove.ensures.items
    ∙ left_at c.args.rest.now.items c.args.entry c.place_in-at.result c.requires seen.place there
    (seen.same c.args.entry there ∙ c.if-not-stands_at.false)

pub returns-then-not-stands_at-clause-left : goal.returns-then-not-stands_at-clause-left
returns-then-not-stands_at-clause-left c =
    let seen = is_seen c.args.rest.now.items c.args.entry c.place_in-at.result c.stands_at.result c.deref.result.now
    c.deref-2.result.now c.deref.ensures.value c.deref-2.ensures.value c.place_in-at.ensures c.stands_at.ensures.within
    c.stands_at.ensures.same in
    left_absent c.args.rest.now.items c.args.entry c.place_in-at.result c.requires seen.place
    (λ d k. seen.same d k ∙ c.if-not-stands_at.true)
