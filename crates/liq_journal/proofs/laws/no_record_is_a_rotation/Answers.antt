use Rattle.liq_journal.proofs.Bodies.{found_no_rotation}
use Rattle.liq_journal.proofs.laws.no_record_is_a_rotation.Goals as goal

pub returns : goal.returns
returns c = found_no_rotation
