use Rattle.liq_text.proofs.PieceLaws.{done-rest_pieces}
use Rattle.liq_text.proofs.pieces.Pieces.is_done.Goals as goal

pub returns-then-not-self : goal.returns-then-not-self
returns-then-not-self c = done-rest_pieces c.args.self.now.has_failed c.args.self.now.rest _ c.if-not-self.true
    c.is_none.ensures
