use Rattle.std.proofs.Common.{sym, ◌∙◌}
use Rattle.std.proofs.lemmas.Option.{none-some}
use Rattle.liq_text.specs.Spelling.{Spells}
use Rattle.liq_text.proofs.LineLaws.{read_is_spelled, spelled_is_read, is_found, is_only, is_bad}
use Rattle.liq_text.proofs.lines.read_line.Goals as goal

pub returns-clause-found : goal.returns-clause-found
returns-clause-found c = is_found (λ r. Spells c.args.line.now r) _ _ _ c.ok_or.ensures.value
    (λ r e. read_is_spelled c.args.line.now r (sym c.request.ensures ∙ e))

pub returns-clause-only : goal.returns-clause-only
returns-clause-only c = λ r s. is_only _ _ _ r c.ok_or.ensures.value (c.request.ensures
    ∙ spelled_is_read c.args.line.now r s)

pub returns-clause-bad : goal.returns-clause-bad
returns-clause-bad c = is_bad _ _ _ c.ok_or.ensures.value (λ none r s. none-some r (sym none ∙ c.request.ensures
    ∙ spelled_is_read c.args.line.now r s))
