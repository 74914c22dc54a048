use Rattle.liq_lock.proofs.Sentences.{sentences}
use Rattle.liq_lock.proofs.laws.rule_in_sentences.Goals as goal

pub returns : goal.returns
returns g c n s r = sentences g.T.Chronicle.history g.T.Chronicle.maker n s r
