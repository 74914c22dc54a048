use Rattle.std.proofs.Common.{ap, length, ◌∙◌}
use Rattle.liq_text.specs.Reading.{pieces_of}
use Rattle.liq_text.proofs.ReadingLaws.{none_from}
use Rattle.liq_fees.specs.Reading.{line_of}
use Rattle.liq_fees.proofs.Reading.{line_takes}
use Rattle.liq_fees.proofs.lines.stake_line.Goals as goal

-- there are fewer words or more
pub returns-in_err-at : goal.returns-in_err-at
returns-in_err-at c =
    let words = pieces_of c.args.line.now in
    c.from_residual.ensures
    ∙ none_from (line_of words) (λ l e. c.in_err-at.ensures (ap length (line_takes words l e).3))
