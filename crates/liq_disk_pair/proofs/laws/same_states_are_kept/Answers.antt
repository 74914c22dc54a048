use Rattle.liq_disk_pair.proofs.Alike.{kept_alike}
use Rattle.liq_disk_pair.proofs.laws.same_states_are_kept.Goals as goal

pub returns : goal.returns
returns c l r s t kept same formed = kept_alike (record {
  image = same.image;
  records = same.records;
  left = kept.stands.formed;
  right = formed;
}) l r kept
