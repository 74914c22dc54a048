use Rattle.std.proofs.Common.{append_assoc}
use Rattle.liq_word_gen.proofs.Loads.{lined}
use Rattle.liq_word_gen.proofs.load.Load.line.Goals as goal

pub returns : goal.returns
returns c s stands = lined c.args.self.now.counts _ _ _ _ _ _ c.in_ok-line.ensures.ok (simp append_assoc)
    (c.pool_words-words.ensures s stands) (c.supply-supply.ensures s stands)
