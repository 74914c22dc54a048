-- What a depositor is promised, beside the exact share that the plain ledger gives it.
use Rattle.std.specs.Prelude.{ℕ, ◌+◌, ◌*◌, ◌≤◌, List}
use Rattle.liq_types.specs.declared.events.PoolEvent.{PoolEvent}
use Rattle.liq_types.specs.Allowance.{balance_allowance, gain_allowance}
use Rattle.liq_types.specs.PlainLedger.{exact_share, gains_paid_to}
use Rattle.liq_types.specs.State.{State}
use Rattle.liq_stability.specs.Position.{balance_of, gain_of}

-- all that an account gained: what it may take now, and what it was paid
abbrev pub gained_of : State → ℕ → List PoolEvent → ℕ
gained_of s account events = gain_of s account + gains_paid_to account events

-- Neither the balance nor all that was gained is more than the exact share, and neither is less by
-- more than the allowance.
pub record IsWithinAllowance (s : State) (account : ℕ) (events : List PoolEvent) : Type 0 where
  pub balance_at_most : balance_of s account * (exact_share account events).den
      ≤ (exact_share account events).bal
  pub gain_at_most : gained_of s account events * (exact_share account events).den
      ≤ (exact_share account events).gain
  pub balance_at_least : (exact_share account events).bal
      ≤ (balance_of s account + balance_allowance account events) * (exact_share account events).den
  pub gain_at_least : (exact_share account events).gain
      ≤ (gained_of s account events + gain_allowance account events)
      * (exact_share account events).den
