use Rattle.std.proofs.Common.{◌+◌, ℕ, List, subst}
use Rattle.liq_types.specs.declared.amounts.TheConstants.{LINE_BYTES}
use Rattle.liq_text_lines.specs.Reading.{unread, ReadsAtMost}
use Rattle.liq_text_lines.proofs.Few.{line_few, ended_few}
use Rattle.liq_text_lines.proofs.reader.Reader.next_line.Goals as goal

pub returns-then-take_line-clause-few : goal.returns-then-take_line-clause-few
returns-then-take_line-clause-few g c =
    let taken = c.take_line.ensures.taken c.if-take_line.true in
    ended_few _ _ _ _ taken.0 taken.2

pub returns-clause-few : goal.returns-clause-few
returns-clause-few g c =
    let at = g.S.Source.at in
    subst (λ (held : List ℕ). ReadsAtMost (LINE_BYTES + 1) (unread held (at c.args.input.now).left)
    (unread c.read_line.new.self (at c.read_line.new.input).left))
    (c.take_line.ensures.left c.if-take_line.false)
    (line_few _ _ _ _ _ c.read_line.ensures.line c.read_line.ensures.short)
