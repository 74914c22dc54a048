use Rattle.liq_stability.proofs.Pool.{offset-words, offset-finishes}
use Rattle.liq_stability.proofs.laws.offsets_move_the_words.Goals as goal

pub returns-clause-words : goal.returns-clause-words
returns-clause-words c s f h debt coll = offset-words s f h debt coll

pub returns-clause-finished : goal.returns-clause-finished
returns-clause-finished c s debt coll = offset-finishes s debt coll
