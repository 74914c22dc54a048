use Rattle.std.proofs.Common.{◌≡◌, ◌≤◌, ◌-◌, ◌++◌, ℕ, List, length, take}
use Rattle.liq_follower.specs.Fed.{AreOver}
use Rattle.liq_follower.specs.Following.{IsFed}
use Rattle.liq_follower.proofs.follower.Follower.feed.Given as goal

-- what is taken so far
abbrev pub invariant-loop-taken : goal.invariant-loop-taken
invariant-loop-taken l = record {
  within : l.taken ≤ length l.piece;
  fed : (bytes : List ℕ) → IsFed bytes l.fn.self → IsFed (bytes ++ take l.taken l.piece) l.self;
  over : (bytes : List ℕ) → IsFed bytes l.fn.self → AreOver bytes → l.taken ≡ 0;
  stays : (bytes : List ℕ) → IsFed bytes l.fn.self → AreOver bytes → l.self ≡ l.fn.self;
}

abbrev pub decreases-loop-taken : goal.decreases-loop-taken
decreases-loop-taken l = length l.piece - l.taken
