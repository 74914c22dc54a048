use Rattle.std.proofs.Common.{◌∙◌}
use Rattle.liq_list_chunks.proofs.Standing.{entered_at, entered_there, is_seen}
use Rattle.liq_list_chunks.proofs.chunks.enter_rest.Goals as goal

pub returns-then-stands_at-clause-ok : goal.returns-then-stands_at-clause-ok
returns-then-stands_at-clause-ok c =
    let seen = is_seen c.args.rest.now.items c.args.entry c.place_in-at.result c.stands_at.result c.deref.result.now
    c.deref-2.result.now c.deref.ensures.value c.deref-2.ensures.value c.place_in-at.ensures c.stands_at.ensures.within
    c.stands_at.ensures.same in
    let there = seen.within c.if-stands_at.true in
    entered_there c.args.rest.now.items c.args.entry c.place_in-at.result c.requires seen.place there
    (seen.same c.args.entry there ∙ c.if-stands_at.true)

pub returns-clause-ok : goal.returns-clause-ok
returns-clause-ok c =
    let seen = is_seen c.args.rest.now.items c.args.entry c.place_in-at.result c.stands_at.result c.deref.result.now
    c.deref-2.result.now c.deref.ensures.value c.deref-2.ensures.value c.place_in-at.ensures c.stands_at.ensures.within
    c.stands_at.ensures.same in
    c.in-Ok.ensures.items
    ∙ entered_at c.args.rest.now.items c.args.entry c.place_in-at.result c.requires seen.place
    (λ d k. seen.same d k ∙ c.if-stands_at.false)
