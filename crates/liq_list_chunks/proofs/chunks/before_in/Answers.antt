use Rattle.std.proofs.Common.{sym, ◌∙◌}
use Rattle.liq_list_chunks.proofs.Nearest.{before_is_first, before_is_in}
use Rattle.liq_list_chunks.proofs.chunks.before_in.Goals as goal

pub returns-then-at-gt0 : goal.returns-then-at-gt0
returns-then-at-gt0 c =
    before_is_in c.args.first c.args.rest.now c.args.place _ c.args.at c.requires.ascending c.requires.place
    c.if-at-gt0.true

pub returns-then-is_before : goal.returns-then-is_before
returns-then-is_before c =
    before_is_first c.args.first c.args.rest.now c.args.place c.args.at _ c.requires.ascending c.requires.place
    c.if-at-gt0.false (sym c.if-is_before.true ∙ c.is_before.ensures)

pub returns-else-is_before : goal.returns-else-is_before
returns-else-is_before c =
    before_is_first c.args.first c.args.rest.now c.args.place c.args.at _ c.requires.ascending c.requires.place
    c.if-at-gt0.false (sym c.if-is_before.false ∙ c.is_before.ensures)
