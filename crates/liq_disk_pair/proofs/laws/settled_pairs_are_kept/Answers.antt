use Rattle.liq_disk_pair.proofs.Keeping.{settled_kept}
use Rattle.liq_disk_pair.proofs.laws.settled_pairs_are_kept.Goals as goal

pub returns : goal.returns
returns c = settled_kept
