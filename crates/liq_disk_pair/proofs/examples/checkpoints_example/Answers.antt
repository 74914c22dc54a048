use Rattle.std.proofs.Common.{refl}
use Rattle.liq_checkpoint.specs.Reading.{image_at, limit_at, number_at, numbers_at, words_at}
use Rattle.liq_disk_pair.specs.Replay.{base_of}
use Rattle.liq_disk_pair.proofs.examples.checkpoints_example.Goals as goal

pub returns-clause-first : goal.returns-clause-first
unfolding base_of
returns-clause-first c = refl

pub returns-clause-missing : goal.returns-clause-missing
unfolding base_of image_at limit_at
returns-clause-missing c = refl

pub returns-clause-misnamed : goal.returns-clause-misnamed
unfolding base_of image_at limit_at
returns-clause-misnamed c = refl

pub returns-clause-cut : goal.returns-clause-cut
unfolding base_of image_at limit_at words_at numbers_at number_at
returns-clause-cut c = refl

pub returns-clause-first_of_version_1 : goal.returns-clause-first_of_version_1
unfolding base_of
returns-clause-first_of_version_1 c = refl

pub returns-clause-missing_in_version_1 : goal.returns-clause-missing_in_version_1
unfolding base_of image_at limit_at
returns-clause-missing_in_version_1 c = refl
