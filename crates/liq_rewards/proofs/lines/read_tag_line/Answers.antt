use Rattle.std.proofs.Common.{sym, ◌∙◌}
use Rattle.std.proofs.lemmas.Option.{none-some}
use Rattle.liq_text.proofs.LineLaws.{is_found, is_only, is_bad}
use Rattle.liq_rewards.specs.Lines.{Spells}
use Rattle.liq_rewards.proofs.Reading.{read_is_spelled, spelled_is_read}
use Rattle.liq_rewards.proofs.lines.read_tag_line.Goals as goal

pub returns-clause-found : goal.returns-clause-found
returns-clause-found c = is_found (λ l. Spells c.args.line.now l) _ _ _ c.ok_or.ensures.value
    (λ l e. read_is_spelled c.args.line.now l (sym c.tag_line.ensures ∙ e))

pub returns-clause-only : goal.returns-clause-only
returns-clause-only c = λ l s. is_only _ _ _ l c.ok_or.ensures.value (c.tag_line.ensures
    ∙ spelled_is_read c.args.line.now l s)

pub returns-clause-bad : goal.returns-clause-bad
returns-clause-bad c = is_bad _ _ _ c.ok_or.ensures.value (λ none l s. none-some l (sym none ∙ c.tag_line.ensures
    ∙ spelled_is_read c.args.line.now l s))
