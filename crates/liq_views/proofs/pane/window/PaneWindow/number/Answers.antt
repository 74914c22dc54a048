use Rattle.liq_views.specs.Panes.{seen_by}
use Rattle.liq_views.proofs.Numbers.{later_version}
use Rattle.liq_views.proofs.pane.window.PaneWindow.number.Goals as goal

pub returns-clause-later : goal.returns-clause-later
returns-clause-later c = later_version (seen_by c.args.self.now) (seen_by c.number.new.self) c.number.ensures.later
