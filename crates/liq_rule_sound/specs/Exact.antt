-- The Stability Pool beside the plain ledger of what was done to it.
use Rattle.std.specs.Prelude.{ℕ, ◌≡◌, ◌+◌, ◌*◌, List, Some}
use Rattle.liq_types.specs.declared.amounts.TheConstants.{ACCOUNTS}
use Rattle.liq_types.specs.declared.events.PoolEvent.{PoolEvent}
use Rattle.liq_types.specs.PlainLedger.{exact_share, den_of, offsets_coll, gains_paid_to, over_accounts}
use Rattle.liq_types.specs.State.{State, DepositEntry}
use Rattle.liq_types.specs.Tables.{at}
use Rattle.liq_types.specs.Totals.{pool_total, pool_coll}
use Rattle.liq_stability.specs.Position.{balance_of, gain_of, balance_by, gain_by, mark_of, sums_from, words_of}

-- the caps on the position of a deposit do not act
abbrev pub IsUncapped : State → ℕ → DepositEntry → Type 0
IsUncapped s account d =
    let mark = mark_of s d.mark in
    (balance_of s account ≡ balance_by d.amount mark (words_of s))
    × (gain_of s account ≡ gain_by d.amount mark (sums_from s mark))

-- After these events the pool is what the plain ledger says.
pub record IsExactPool (s : State) (es : List PoolEvent) : Type 0 where
  -- the exact balances of all accounts come to its LUSD
  pub balances : over_accounts ACCOUNTS (λ account. (exact_share account es).bal)
      ≡ pool_total s * den_of es
  -- their exact gains come to the collateral of all offsets
  pub gains : over_accounts ACCOUNTS (λ account. (exact_share account es).gain)
      ≡ offsets_coll es * den_of es
  -- what was paid of these is what is no longer in it
  pub paid : pool_coll s + over_accounts ACCOUNTS (λ account. gains_paid_to account es)
      ≡ offsets_coll es
  pub caps : (account : ℕ) (d : DepositEntry) → at s.deposits account ≡ Some d
      → IsUncapped s account d
