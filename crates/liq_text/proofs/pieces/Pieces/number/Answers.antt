use Rattle.std.proofs.Common.{ap, ◌∙◌}
use Rattle.liq_text.specs.Reading.{a_number, number_of}
use Rattle.liq_text.specs.Pieces.{pieces_left}
use Rattle.liq_text.proofs.FormLaws.{value_known, well_known, value_unknown, fails_unknown}
use Rattle.liq_text.proofs.pieces.Pieces.number.Goals as goal

pub returns-in-Some-clause-value : goal.returns-in-Some-clause-value
returns-in-Some-clause-value c = value_known a_number (pieces_left c.args.self.now) _ (c.in-Some.ensures
    ∙ ap number_of c.next.ensures.word)

pub returns-in-Some-clause-failed : goal.returns-in-Some-clause-failed
returns-in-Some-clause-failed c = c.next.ensures.same ∙ well_known a_number c.args.self.now.has_failed
    (pieces_left c.args.self.now) c.in-Some.number (c.in-Some.ensures ∙ ap number_of c.next.ensures.word)

pub returns-in-None-clause-value : goal.returns-in-None-clause-value
returns-in-None-clause-value c = value_unknown a_number (pieces_left c.args.self.now) (c.in-None.ensures
    ∙ ap number_of c.next.ensures.word)

pub returns-in-None-clause-failed : goal.returns-in-None-clause-failed
returns-in-None-clause-failed c = fails_unknown a_number c.args.self.now.has_failed (pieces_left c.args.self.now)
    (c.in-None.ensures ∙ ap number_of c.next.ensures.word)
