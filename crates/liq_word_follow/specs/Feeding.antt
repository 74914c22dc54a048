-- What feeding the input leaves.
use Rattle.std.specs.Prelude.{ℕ, ◌≡◌, ◌≤◌, List, [], ◌++◌, length, Option, Result, Ok, Err}
use Rattle.liq_text_lines.specs.Reading.{IsOver}
use Rattle.liq_follower.specs.Fed.{GoOn}
use Rattle.liq_follower.specs.Following.{Followed, IsFed}
use Rattle.liq_word_exit.specs.declared.halts.Halt.{Halt}
use Rattle.liq_word_follow.specs.declared.feeding.TheConstants.{FED_MOST}
use Rattle.liq_word_follow.specs.Followed.{FollowsTo, StopsWithin}
use Rattle.liq_word_exit.specs.Statuses.{End}

-- A piece was fed: these are all bytes with those of the piece.
abbrev pub FedPiece : End → List ℕ → Followed → Type 0
FedPiece (Ok done) bytes follower = IsFed bytes follower × GoOn bytes
FedPiece (Err halt) bytes follower = StopsWithin halt bytes

-- Bytes were read behind those that are fed, and then fed too: as many as are told, and none at the
-- source's end.
abbrev pub FedNext : Result ℕ Halt → List ℕ → List ℕ → Option (List ℕ) → Followed → Type 0
FedNext (Ok count) fed read left follower =
    (length read ≡ count) × IsFed (fed ++ read) follower × GoOn (fed ++ read) × (count ≡ 0
    → IsOver left)
FedNext (Err halt) fed read left follower = StopsWithin halt (fed ++ read)

-- the whole input was fed, or feeding it stopped
abbrev pub FedAll : End → List ℕ → Option (List ℕ) → Followed → Type 0
FedAll (Ok done) read left follower = (length read ≤ FED_MOST) × IsOver left × IsFed read follower
    × GoOn read
FedAll (Err halt) read left follower = FollowsTo (Err halt) read left []
