use Rattle.liq_list_version.specs.Versions.{asker, key_asked}
use Rattle.liq_list_version.proofs.Neighbours.{both_absent}
use Rattle.liq_list_version.proofs.laws.both_absent_where_empty.Goals as goal

pub returns : goal.returns
returns c v ask = both_absent v.view.list (key_asked v.view ask, asker ask)
