use Rattle.liq_text.proofs.PieceLaws.{word_none, left_none, word_some, left_some}
use Rattle.liq_text.proofs.pieces.Pieces.next.Goals as goal

pub returns-in-Some-clause-word : goal.returns-in-Some-clause-word
returns-in-Some-clause-word c = word_some c.args.self.now.rest _ _ c.in-Some.is c.split_first.ensures

pub returns-in-Some-clause-left : goal.returns-in-Some-clause-left
returns-in-Some-clause-left c = left_some c.args.self.now.rest _ _ c.in-Some.is c.split_first.ensures

pub returns-in-None-clause-word : goal.returns-in-None-clause-word
returns-in-None-clause-word c = word_none c.args.self.now.rest c.in-None.is

pub returns-in-None-clause-left : goal.returns-in-None-clause-left
returns-in-None-clause-left c = left_none c.args.self.now.rest c.in-None.is
