use Rattle.liq_disk_pair.proofs.Turning.{rotation_kept, rotation_settled}
use Rattle.liq_disk_pair.proofs.laws.rotations_keep_pairs.Goals as goal

pub returns-clause-kept : goal.returns-clause-kept
returns-clause-kept c = rotation_kept

pub returns-clause-settled : goal.returns-clause-settled
returns-clause-settled c = rotation_settled
