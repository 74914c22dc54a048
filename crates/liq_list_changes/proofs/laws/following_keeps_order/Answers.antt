use Rattle.liq_list_changes.proofs.Following.{view_ascends}
use Rattle.liq_list_changes.proofs.laws.following_keeps_order.Goals as goal

pub returns : goal.returns
returns c = view_ascends
