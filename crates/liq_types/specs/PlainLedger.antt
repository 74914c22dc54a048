-- The plain ledger: each account's exact share of the Stability Pool, as a fraction. All shares
-- have one denominator, and there is no product, sum, epoch or scale.
use Rattle.std.specs.Prelude.{ℕ, Bool, false, ◌+◌, ◌-◌, ◌*◌, ◌<◌, ◌==◌, List, fold, sum_by, count_by, if◌then◌else◌}
use Rattle.std.specs.List.{AllByRecursion, range_with_len}
use Rattle.liq_types.specs.declared.events.PoolEvent.{PoolEvent}
use Rattle.liq_types.specs.declared.events.PoolEvent.TheVariants.{Own, Offset}

-- an account's balance and all that it has gained, over the common denominator
pub record Share : Type 0 where
  pub den : ℕ
  pub bal : ℕ
  pub gain : ℕ

abbrev pub no_share : Share
no_share = record { den = 1; bal = 0; gain = 0 }

-- An offset takes the same part of every balance, and gives collateral by the balance before it.
abbrev pub share_after : ℕ → Share → PoolEvent → Share
share_after account share (Own owner put paid gain amount) =
    if owner == account then record share { bal = share.bal + put * share.den - paid * share.den }
    else share
share_after account share (Offset debt coll total rise) =
    record {
      den = share.den * total;
      bal = share.bal * (total - debt);
      gain = share.gain * total + coll * share.bal;
    }

-- the account's share after events from the opening on
abbrev pub exact_share : ℕ → List PoolEvent → Share
exact_share account events = fold (share_after account) no_share events

-- an offset's total; an own operation shares nothing
abbrev pub total_of : PoolEvent → ℕ
total_of (Own owner put paid gain amount) = 1
total_of (Offset debt coll total rise) = total

-- the denominator of all shares
abbrev pub den_of : List PoolEvent → ℕ
den_of events = fold (λ den e. den * total_of e) 1 events

-- ---- what events say of an account

-- the event is an own operation of the account
abbrev pub is_own_of : ℕ → PoolEvent → Bool
is_own_of account (Own owner put paid gain amount) = owner == account
is_own_of account (Offset debt coll total rise) = false

-- how many own operations the account has
abbrev pub own_events_of : ℕ → List PoolEvent → ℕ
own_events_of account events = count_by (is_own_of account) events

-- collateral that an event paid the account as its gain
abbrev pub gain_paid : ℕ → PoolEvent → ℕ
gain_paid account (Own owner put paid gain amount) = if owner == account then gain else 0
gain_paid account (Offset debt coll total rise) = 0

abbrev pub gains_paid_to : ℕ → List PoolEvent → ℕ
gains_paid_to account events = sum_by (gain_paid account) events

-- collateral that offsets brought
abbrev pub coll_of : PoolEvent → ℕ
coll_of (Own owner put paid gain amount) = 0
coll_of (Offset debt coll total rise) = coll

abbrev pub offsets_coll : List PoolEvent → ℕ
offsets_coll events = sum_by coll_of events

-- ---- over all accounts

abbrev pub IsOwnedBelow : ℕ → PoolEvent → Type 0
IsOwnedBelow n (Own owner put paid gain amount) = owner < n
IsOwnedBelow n (Offset debt coll total rise) = Unit {0}

-- all accounts with an own operation are below n
abbrev pub AreOwnedBelow : ℕ → List PoolEvent → Type 0
AreOwnedBelow n events = AllByRecursion (IsOwnedBelow n) events

-- a number added up over all accounts below n
unfoldable pub over_accounts : ℕ → (ℕ → ℕ) → ℕ
over_accounts n f = sum_by f (range_with_len 0 n)
