use Rattle.std.proofs.Common.{◌≡◌, ◌⊎◌, inl, inr, ℕ, zero, suc, ◌+◌, ◌≤◌, ◌<◌, List, [], ◌∷◌, length, take, arith, length-append}
use Rattle.liq_types.specs.declared.requests.Request.{Request}
use Rattle.liq_types.specs.State.{State}
use Rattle.liq_rule_step.specs.Step.{step}
use Rattle.liq_text.specs.Replies.{reply_line}
use Rattle.liq_word_exit.specs.Output.{lines}
use Rattle.liq_word_exit.proofs.laws.answered_is_kept.Goals as goal

-- fewer requests have no longer replies
no_longer : (start : State) (n m : ℕ) (requests : List Request) → n ≤ m → length (lines start (take n requests))
    ≤ length (lines start (take m requests))
no_longer start zero m requests le = omega arith
no_longer start (suc n) zero requests le = absurd (omega (arith, le))
no_longer start (suc n) (suc m) [] le = omega arith
no_longer start (suc n) (suc m) (q ∷ requests) le =
    let reply = reply_line (step start q).1 in
    let later = (step start q).0 in
    let rest = no_longer later n m requests (omega (arith, le)) in
    omega (
      arith,
      rest,
      length-append reply (lines later (take n requests)),
      length-append reply (lines later (take m requests)),
    )

more_than : (start : State) (requests : List Request) (before held n m : ℕ)
    → (held ≤ before + length (lines start (take n requests))) ⊎ (n ≡ length requests) → m < length requests
    → before + length (lines start (take m requests)) < held → m < n
more_than start requests before held n m (inr all) few out = omega (arith, all, few)
more_than start requests before held n m (inl within) few out = by (either n m) where
  either : (n m : ℕ) → (n ≤ m) ⊎ (m < n)
  either n m = grind arith

  by : (n ≤ m) ⊎ (m < n) → m < n
  by (inr more) = more
  by (inl le) = let fewer = no_longer start n m requests le in absurd (omega (arith, within, out, fewer))

pub returns : goal.returns
returns c begun start requests fault before held m a b holds few out =
    (holds.0, more_than start requests before held holds.0 m holds.2 few out, holds.1, holds.3)
