use Rattle.std.proofs.Common.{◌≡◌, vec_len}
use Rattle.liq_word_follow.specs.declared.feeding.TheConstants.{PIECE_BYTES}
use Rattle.liq_word_follow.proofs.Underway.{Underway}
use Rattle.liq_word_follow.proofs.feeding.feed_input.Given as goal

-- what was read is fed, and there is room for a piece
abbrev pub invariant-loop-room : goal.invariant-loop-room
invariant-loop-room g l =
    let at = g.S.Source.at in
    record {
      underway : Underway (at l.fn.input).left (at l.input).left l.room l.follower;
      piece : vec_len l.piece ≡ PIECE_BYTES;
      count : (at l.input).faults ≡ (at l.fn.input).faults;
    }

abbrev pub decreases-loop-room : goal.decreases-loop-room
decreases-loop-room g l = l.room
