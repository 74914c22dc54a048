use Rattle.std.proofs.Common.{◌++◌, sym, subst}
use Rattle.liq_word_follow.specs.Feeding.{FedPiece}
use Rattle.liq_word_follow.proofs.Pieces.{fed_piece}
use Rattle.liq_word_follow.proofs.feeding.feed_piece.Goals as goal

pub returns-clause-fed : goal.returns-clause-fed
returns-clause-fed c fed is =
    let e = c.feed-end.ensures in
    let end = c.feed-end.result.end in
    subst (λ r. FedPiece r (fed ++ c.args.piece.now) c.feed-end.new.self) (sym c.end_of_feed.ensures)
    (fed_piece c.feed-end.result.taken fed c.args.piece.now end c.feed-end.new.self (e.fed fed is) (e.end fed is) e.all
    (λ over. let h = e.first fed is over in (h.front, h.last, h.are, (h.state, h.lead))) e.memory
    (λ none. e.right none fed is))
