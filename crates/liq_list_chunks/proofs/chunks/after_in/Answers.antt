use Rattle.std.proofs.Common.{sym, ◌∙◌}
use Rattle.liq_list_chunks.proofs.Nearest.{after_absent, after_is_first, after_same}
use Rattle.liq_list_chunks.proofs.chunks.after_in.Goals as goal

pub returns-then-is_before : goal.returns-then-is_before
returns-then-is_before c =
    after_is_first c.args.first c.args.rest.now c.args.place (sym c.is_before.ensures ∙ c.if-is_before.true)

pub returns-then-stands_at : goal.returns-then-stands_at
returns-then-stands_at c =
    let there = c.stands_at.ensures.within c.if-stands_at.true in
    c.entry_at.ensures
    ∙ after_same c.args.first c.args.rest.now c.args.place c.args.at c.requires.ascending c.requires.place
    (sym c.is_before.ensures ∙ c.if-is_before.false) c.args.place there (c.stands_at.ensures.same c.args.place there
    ∙ c.if-stands_at.true)

pub returns-else-stands_at : goal.returns-else-stands_at
returns-else-stands_at c =
    c.entry_at-else-stands_at.ensures
    ∙ after_absent c.args.first c.args.rest.now c.args.place c.args.at c.requires.ascending c.requires.place
    (sym c.is_before.ensures ∙ c.if-is_before.false) (λ d k. c.stands_at.ensures.same d k ∙ c.if-stands_at.false)
