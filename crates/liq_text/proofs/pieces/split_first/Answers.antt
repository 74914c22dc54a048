use Rattle.std.proofs.Common.{◌+◌}
use Rattle.liq_text.specs.Reading.{pieces_of}
use Rattle.liq_text.specs.Pieces.{rest_pieces}
use Rattle.liq_text.proofs.PieceLaws.{pieces_of-one, pieces_of-more, to_the_end}
use Rattle.liq_text.proofs.pieces.split_first.Goals as goal

pub returns-in-None : goal.returns-in-None
unfolding rest_pieces
returns-in-None c = pieces_of-one c.args.line.now c.in-None.ensures.first

pub returns-in-Some : goal.returns-in-Some
unfolding rest_pieces pieces_of
returns-in-Some c = to_the_end c.args.line.now (c.in-Some.at + 1) (pieces_of-more c.args.line.now c.in-Some.at
    c.in-Some.ensures.first)
