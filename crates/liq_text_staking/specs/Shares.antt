-- What stands behind the text that answers stakers, and that each has its share of it.
use Rattle.std.specs.Prelude.{◌≡◌, ℕ, ◌+◌, ◌≤◌, List, length}
use Rattle.liq_types.specs.declared.amounts.TheConstants.{ACCOUNTS}
use Rattle.liq_types.specs.declared.requests.Command.{Command}
use Rattle.liq_types.specs.PlainLedger.{over_accounts}
use Rattle.liq_types.specs.State.{opening_with}
use Rattle.liq_fees.specs.Exact.{IsWithinAllowance, allowance_of}
use Rattle.liq_fees.specs.Gains.{gain_of}
use Rattle.liq_fees.specs.Happened.{Happened, Asset, fees_of, unshared_of}
use Rattle.liq_fees.specs.declared.lines.StakeLine.{StakeLine}
use Rattle.liq_text_staking.specs.Paid.{fees_along}
use Rattle.liq_text_staking.specs.Asked.{answered_all, shared_up_to}

-- all that happened by the end, where these commands of a journal are made again from the opening
-- under its limit, and these lines are answered: accepted changes, and the fees of all records
abbrev pub happened_by : ℕ → List Command → List StakeLine → List Happened
happened_by limit commands lines =
    let fees = fees_along (opening_with limit) commands in
    let asked = answered_all fees lines in
    shared_up_to fees asked.past asked.least (length fees)

-- This much of an asset came as fees. All gains and what stayed unshared are at most that, and no
-- account has more than its exact share, nor less by more than its allowance.
pub record HaveShares (asset : Asset) (past : List Happened) (pool : ℕ) : Type 0 where
  pub fees : fees_of asset past ≡ pool
  pub covered : over_accounts ACCOUNTS (λ account. gain_of asset account past)
      + unshared_of asset past ≤ pool
  pub shares : (account : ℕ)
      → IsWithinAllowance asset account past (gain_of asset account past)
      (allowance_of account past)
