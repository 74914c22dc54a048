use Rattle.liq_disk_pair.proofs.Keeping.{append_kept, append_settled}
use Rattle.liq_disk_pair.proofs.laws.appends_keep_pairs.Goals as goal

pub returns-clause-kept : goal.returns-clause-kept
returns-clause-kept c = append_kept

pub returns-clause-settled : goal.returns-clause-settled
returns-clause-settled c = append_settled
