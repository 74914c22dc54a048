use Rattle.liq_disk_pair.proofs.Recovering.{recovered}
use Rattle.liq_disk_pair.proofs.laws.openings_recover_pairs.Goals as goal

pub returns : goal.returns
returns c = recovered
