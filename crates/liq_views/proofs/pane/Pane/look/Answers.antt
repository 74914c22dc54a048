use Rattle.std.proofs.Common.{ap, ◌∙◌}
use Rattle.left_right.specs.Sides.{view}
use Rattle.liq_list_version.specs.Versions.{Numbered, answer_of}
use Rattle.liq_views.proofs.Keeping.{shows}
use Rattle.liq_views.proofs.pane.Pane.look.Goals as goal

pub returns-clause-hint : goal.returns-clause-hint
returns-clause-hint c =
    let reading = c.in_ok-reading.reading in
    c.answer-hint.ensures
    ∙ ap (λ (v : Numbered). answer_of v c.args.ask.now)
    (shows c.get.result.now reading.part.value (view reading.place) (view c.leave.result.place) c.get.ensures
    c.in_ok-reading.ensures.looks.made c.leave.ensures.1)
