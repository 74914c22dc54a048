use Rattle.std.proofs.Common.{arith, inr, refl}
use Rattle.liq_types.specs.declared.amounts.TheConstants.{LIM, LIM_OF_VERSION_1}
use Rattle.liq_types.specs.State.{opening, opening_with}
use Rattle.liq_checkpoint.specs.Spelling.{spelling}
use Rattle.liq_disk_pair.specs.Examples.{rotate, rotated_at}
use Rattle.liq_disk_pair.proofs.Checkpoints.{rotated_read}
use Rattle.liq_disk_pair.proofs.Replaying.{opening_formed}
use Rattle.liq_disk_pair.proofs.Turning.{made_rotation}
use Rattle.liq_disk_pair.proofs.examples.rotation_example.Goals as goal

pub returns-clause-rotated : goal.returns-clause-rotated
returns-clause-rotated c =
    let checkpoint = spelling (rotated_at 1000000000) in
    made_rotation opening rotate checkpoint (opening_formed LIM) (omega arith) refl refl refl
    (rotated_read LIM (inr refl) 1000000000 (omega arith) checkpoint refl) refl

pub returns-clause-from_version_1 : goal.returns-clause-from_version_1
returns-clause-from_version_1 c =
    let checkpoint = spelling (rotated_at 1000000000) in
    made_rotation (opening_with LIM_OF_VERSION_1) rotate checkpoint (opening_formed LIM_OF_VERSION_1)
    (omega arith) refl refl
    refl
    (rotated_read LIM (inr refl) 1000000000 (omega arith) checkpoint refl) refl
