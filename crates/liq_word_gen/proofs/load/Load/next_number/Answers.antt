use Rattle.liq_word_gen.proofs.Loads.{next_is}
use Rattle.liq_word_gen.proofs.load.Load.next_number.Goals as goal

pub returns : goal.returns
returns c s stands = next_is c.args.self.now.protocol c.args.self.now.counts s c.requires.few c.requires.numbered stands
