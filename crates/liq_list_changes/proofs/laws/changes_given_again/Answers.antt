use Rattle.liq_list_changes.proofs.Following.{view_again}
use Rattle.liq_list_changes.proofs.laws.changes_given_again.Goals as goal

pub returns : goal.returns
returns c = view_again
