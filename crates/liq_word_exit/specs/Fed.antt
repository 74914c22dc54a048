-- How following goes on where a feed ended so.
use Rattle.std.specs.Prelude.{Ok, Err}
use Rattle.liq_follower.specs.declared.answers.FedEnd.{FedEnd}
use Rattle.liq_follower.specs.declared.answers.FedEnd.TheVariants as fed
use Rattle.liq_word_exit.specs.declared.halts.Halt.TheVariants.{DamagedInput, NoMemory, Rotated}
use Rattle.liq_word_exit.specs.Statuses.{End}

abbrev pub end_of_feed : FedEnd → End
end_of_feed fed.All = Ok tt
end_of_feed fed.NoMemory = Err NoMemory
end_of_feed (fed.Damaged index) = Err (DamagedInput index)
end_of_feed (fed.Rotated generation) = Err (Rotated generation)
