-- What is kept of all that happened.
use Rattle.std.specs.Prelude.{◌≡◌, ℕ, ◌+◌, ◌-◌, ◌*◌, ◌≤◌, ◌==◌, nat_lt, nat_le, Bool, not, List}
use Rattle.std.specs.Prelude.{Option, None, Some, unwrap_or, if◌then◌else◌}
use Rattle.liq_num.specs.Quotient.{floor_of, ceiling_of}
use Rattle.liq_num.specs.declared.power.TheConstants.{ONE}
use Rattle.liq_types.specs.Tables.{Table, at}
use Rattle.liq_types.specs.declared.amounts.TheConstants.{ACCOUNTS, LIM}
use Rattle.liq_fees.specs.Happened.{Happened, Put, Out, Asset, of_coll, of_lusd, stake_of, staked_of, unshared_of}
use Rattle.liq_fees.specs.Happened.{changes_of, shares_of, IsLawful}
use Rattle.liq_fees.specs.Exact.{weight_of, allowance_of}
use Rattle.liq_fees.specs.Gains.{gained, sum_of, mark_of, got_of, gain_of}
use Rattle.liq_fees.specs.declared.changes.TheConstants.{STAKED_MOST, CHANGES_MOST, FEES_MOST}
use Rattle.liq_fees.specs.declared.changes.StakeRefusal.{StakeRefusal}
use Rattle.liq_fees.specs.declared.changes.StakeRefusal.TheVariants.{AccountRange, AmountZero, AmountLimit, ShortStake}
use Rattle.liq_fees.specs.declared.gains.Gain.{Gain}
use Rattle.liq_fees.specs.declared.gains.Pot.{Pot}
use Rattle.liq_fees.specs.declared.gains.Staker.{Staker}
use Rattle.liq_fees.specs.declared.gains.StakeRow.{StakeRow}

pub record Kept : Type 0 where
  pub staked : ℕ
  -- how many fees were shared
  pub shares : ℕ
  pub coll : Pot
  pub lusd : Pot
  pub stakers : Table Staker

-- what is kept of an account that never changed its stake
abbrev pub no_gain : Gain
no_gain = record { mark = 0; got = 0 }

abbrev pub no_staker : Staker
no_staker = record {
  stake = 0;
  coll = no_gain;
  lusd = no_gain;
  weight = 0;
  shares = 0;
  changes = 0;
}

abbrev pub is_used_staker : Staker → Bool
is_used_staker s = not (s.changes == 0)

abbrev pub staker_in : Table Staker → ℕ → Staker
staker_in stakers account = unwrap_or (at stakers account) no_staker

-- the weight of now: the stake counts for each fee that was shared since the last change
abbrev pub weight_at : Staker → ℕ → ℕ
weight_at s shares = s.weight + s.stake * (shares - s.shares)

pub record IsPotOf (asset : Asset) (pot : Pot) (past : List Happened) : Type 0 where
  pub sum : pot.sum ≡ sum_of asset past
  pub unshared : pot.unshared ≡ unshared_of asset past

pub record IsGainOf (asset : Asset) (account : ℕ) (gain : Gain) (past : List Happened) :
    Type 0 where
  pub mark : gain.mark ≡ mark_of asset account past
  pub got : gain.got ≡ got_of asset account past

pub record IsStakerOf (account : ℕ) (s : Staker) (past : List Happened) : Type 0 where
  pub stake : s.stake ≡ stake_of account past
  pub coll : IsGainOf of_coll account s.coll past
  pub lusd : IsGainOf of_lusd account s.lusd past
  pub changes : s.changes ≡ changes_of account past
  pub shares : s.shares ≤ shares_of past
  pub weight : weight_at s (shares_of past) ≡ weight_of account past

-- what is kept stands for a list that is lawful
pub record IsKeptOf (k : Kept) (past : List Happened) : Type 0 where
  pub lawful : IsLawful past
  pub staked : k.staked ≡ staked_of past
  pub shares : k.shares ≡ shares_of past
  pub coll : IsPotOf of_coll k.coll past
  pub lusd : IsPotOf of_lusd k.lusd past
  pub stakers : (account : ℕ) → IsStakerOf account (staker_in k.stakers account) past

-- ---- what the numbers of a value make of each other

-- a pot after one more fee
abbrev pub pot_after : Pot → ℕ → ℕ → Pot
pot_after pot fee staked =
    if staked == 0 then record pot { unshared = pot.unshared + fee }
    else record pot { sum = pot.sum + floor_of fee ONE staked }

-- a gain that is counted anew from a sum on
abbrev pub gain_at : ℕ → Gain → ℕ → Gain
gain_at stake gain sum = record { mark = sum; got = gained gain.got stake (sum - gain.mark) }

-- an account after a change that leaves it this stake
abbrev pub staker_after : Staker → ℕ → Pot → Pot → ℕ → Staker
staker_after s stake coll lusd shares =
    record {
      stake = stake;
      coll = gain_at s.stake s.coll coll.sum;
      lusd = gain_at s.stake s.lusd lusd.sum;
      weight = weight_at s shares;
      shares = shares;
      changes = s.changes + 1;
    }

-- what is told of an account
abbrev pub row_by : ℕ → Staker → Pot → Pot → ℕ → StakeRow
row_by account s coll lusd shares =
    record {
      account = account;
      stake = s.stake;
      coll = gained s.coll.got s.stake (coll.sum - s.coll.mark);
      lusd = gained s.lusd.got s.stake (lusd.sum - s.lusd.mark);
      allow = ceiling_of (weight_at s shares) 1 ONE + s.changes;
    }

-- ---- that they are small

pub record CanGain (stake : ℕ) (gain : Gain) (sum : ℕ) : Type 0 where
  pub later : gain.mark ≤ sum
  pub within : gain.got * ONE + stake * (sum - gain.mark) ≤ LIM * ONE

pub record CanBeRead (s : Staker) (coll lusd : Pot) (shares : ℕ) : Type 0 where
  pub gains_coll : CanGain s.stake s.coll coll.sum
  pub gains_lusd : CanGain s.stake s.lusd lusd.sum
  pub later : s.shares ≤ shares
  pub weight : weight_at s shares ≤ FEES_MOST * ONE
  pub changes : s.changes ≤ CHANGES_MOST

-- ---- what is asked and answered

abbrev pub change_by : ℕ → ℕ → Bool → Happened
change_by account amount out = if out then Out account amount else Put account amount

-- why an account's change is refused, in this order
abbrev pub refusal_of : ℕ → ℕ → Bool → ℕ → ℕ → Option StakeRefusal
refusal_of account amount out staked stake =
    if nat_le ACCOUNTS account then Some (AccountRange account)
    else if amount == 0 then Some AmountZero
    else if out then (if nat_lt stake amount then Some (ShortStake amount stake) else None)
    else if nat_lt STAKED_MOST (staked + amount)
    then Some (AmountLimit (staked + amount) STAKED_MOST)
    else None

abbrev pub row_of : ℕ → List Happened → StakeRow
row_of account past =
    record {
      account = account;
      stake = stake_of account past;
      coll = gain_of of_coll account past;
      lusd = gain_of of_lusd account past;
      allow = allowance_of account past;
    }
