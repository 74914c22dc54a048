use Rattle.std.proofs.Common.{refl}
use Rattle.liq_disk_pair.proofs.examples.generations_example.Goals as goal

pub returns-clause-left : goal.returns-clause-left
returns-clause-left c s t = refl

pub returns-clause-right : goal.returns-clause-right
returns-clause-right c s t = refl

pub returns-clause-left_commands : goal.returns-clause-left_commands
returns-clause-left_commands c cs ds = refl

pub returns-clause-right_commands : goal.returns-clause-right_commands
returns-clause-right_commands c cs ds = refl
