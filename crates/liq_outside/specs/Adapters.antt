use Rattle.std.specs.Prelude.{ℕ, ◌≡◌, ◌≤◌, List, Result}
use Rattle.std.specs.Result.{MatchResult}
use Rattle.liq_outside.specs.Calls.{one_more}

-- a reader or a writer, and how many of its calls have failed
pub record Counted (T : Type 0) : Type 0 where
  pub inner : T
  pub faults : ℕ

-- each failure is counted, and nothing else
abbrev pub CountsFailure : {T E : Type 0} → Result T E → ℕ → ℕ → Type 0
CountsFailure result before after =
    MatchResult result (λ _. after ≡ before) (λ _. after ≡ one_more before)

-- each success is counted, and nothing else
pub record CountsSuccess {T E : Type 0} (result : Result T E) (before after : ℕ) : Type 0 where
  pub later : before ≤ after
  pub counted : MatchResult result (λ _. after ≡ one_more before) (λ _. after ≡ before)

-- what a crash may leave of a file, of which nothing is told
abbrev pub AnyImage : List ℕ → Type 0
AnyImage image = Unit {0}
