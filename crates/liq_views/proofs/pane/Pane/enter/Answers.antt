use Rattle.liq_views.proofs.Keeping.{looks}
use Rattle.liq_views.proofs.pane.Pane.enter.Goals as goal

pub enter_as-requires : goal.enter_as-requires
enter_as-requires c = looks _ _
