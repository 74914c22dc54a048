use Rattle.std.proofs.Common.{ap, length, ◌∙◌}
use Rattle.liq_text.specs.Reading.{pieces_of}
use Rattle.liq_text.proofs.ReadingLaws.{none_from}
use Rattle.liq_rewards.specs.Reading.{line_of}
use Rattle.liq_rewards.proofs.Reading.{line_takes}
use Rattle.liq_rewards.proofs.lines.tag_line.Goals as goal

-- there are fewer words or more
pub returns-in_err-verb : goal.returns-in_err-verb
returns-in_err-verb c =
    let words = pieces_of c.args.line.now in
    c.from_residual.ensures
    ∙ none_from (line_of words) (λ l e. c.in_err-verb.ensures (ap length (line_takes words l e).3))
