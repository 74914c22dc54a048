use Rattle.std.proofs.Common.{ap, ◌∙◌}
use Rattle.left_right.specs.Sides.{view}
use Rattle.liq_list_version.specs.Versions.{Numbered}
use Rattle.liq_views.proofs.Keeping.{shows}
use Rattle.liq_views.proofs.pane.Pane.number.Goals as goal

pub returns-clause-number : goal.returns-clause-number
returns-clause-number c =
    let reading = c.in_ok-reading.reading in
    c.number-number.ensures
    ∙ ap (λ (v : Numbered). v.number)
    (shows c.get.result.now reading.part.value (view reading.place) (view c.leave.result.place) c.get.ensures
    c.in_ok-reading.ensures.looks.made c.leave.ensures.1)
