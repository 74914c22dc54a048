use Rattle.std.proofs.Common.{refl}
use Rattle.liq_disk_pair.specs.Replay.{replay}
use Rattle.liq_disk_pair.proofs.examples.replays_example.Goals as goal

pub returns-clause-accepted : goal.returns-clause-accepted
unfolding replay
returns-clause-accepted c = refl

pub returns-clause-repeated : goal.returns-clause-repeated
unfolding replay
returns-clause-repeated c = refl

pub returns-clause-early : goal.returns-clause-early
unfolding replay
returns-clause-early c = refl

pub returns-clause-refused : goal.returns-clause-refused
unfolding replay
returns-clause-refused c = refl
