-- The exact rewards: what each account would have earned if nothing were rounded, as fractions with
-- one denominator; and by how much a reward may fall short.
use Rattle.std.specs.Prelude.{ℕ, ◌+◌, ◌*◌, ◌^◌, ◌≤◌, List, [], ◌∷◌, if◌then◌else◌}
use Rattle.liq_num.specs.Quotient.{ceiling_of}
use Rattle.liq_types.specs.declared.events.PoolEvent.{PoolEvent}
use Rattle.liq_types.specs.declared.events.PoolEvent.TheVariants.{Own, Offset}
use Rattle.liq_types.specs.Allowance.{balance_allowance, cost_of}
use Rattle.liq_types.specs.PlainLedger.{Share, no_share, share_after, is_own_of, own_events_of}
use Rattle.liq_types.specs.Tables.{EpochScale}
use Rattle.liq_rewards.specs.Timed.{Timed, events_of, total_of, place_at, due_at, is_shared_at}

-- an account's share by the plain ledger, and over its denominator the units that it has earned
pub record RewardShare : Type 0 where
  pub share : Share
  pub rew : ℕ

abbrev pub no_reward : RewardShare
no_reward = record { share = no_share; rew = 0 }

-- Units are shared: of each the part that the balance is of the pool's total. All else stays.
abbrev pub with_units : ℕ → ℕ → RewardShare → RewardShare
with_units units total x =
    record {
      share =
          record {
            den = x.share.den * total;
            bal = x.share.bal * total;
            gain = x.share.gain * total;
          };
      rew = x.rew * total + units * x.share.bal;
    }

-- an event changes the share alone; where it multiplies the denominator, the units too
abbrev pub with_event : ℕ → PoolEvent → RewardShare → RewardShare
with_event account (Own owner put paid gain amount) x =
    record x { share = share_after account x.share (Own owner put paid gain amount) }
with_event account (Offset debt coll total rise) x =
    record {
      share = share_after account x.share (Offset debt coll total rise);
      rew = x.rew * total;
    }

-- what is due at a minute is shared, where anything is
abbrev pub with_due : ℕ → List Timed → RewardShare → RewardShare
with_due minute past x =
    if is_shared_at minute past then with_units (due_at minute past) (total_of past) x else x

abbrev pub share_of : ℕ → List Timed → RewardShare
share_of account [] = no_reward
share_of account (t ∷ past) =
    with_event account t.event (with_due t.minute past (share_of account past))

abbrev pub share_at : ℕ → ℕ → List Timed → RewardShare
share_at account minute past = with_due minute past (share_of account past)

-- ---- by how much a reward may fall short of it

-- what a sharing may withhold since the balance falls short of the exact one
abbrev pub withheld_by : ℕ → ℕ → List Timed → ℕ
withheld_by account minute past =
    if is_shared_at minute past
    then ceiling_of (due_at minute past) (balance_allowance account (events_of past))
    (total_of past)
    else 0

abbrev pub withheld_of : ℕ → List Timed → ℕ
withheld_of account [] = 0
withheld_of account (t ∷ past) = withheld_of account past + withheld_by account t.minute past

abbrev pub withheld_at : ℕ → ℕ → List Timed → ℕ
withheld_at account minute past = withheld_of account past + withheld_by account minute past

-- the amount that the account's last own operation left, and the place of then
abbrev pub amount_left : PoolEvent → ℕ
amount_left (Own owner put paid gain amount) = amount
amount_left (Offset debt coll total rise) = 0

abbrev pub recorded : ℕ → List Timed → ℕ
recorded account [] = 0
recorded account (t ∷ past) = if is_own_of account t.event then amount_left t.event
    else recorded account past

abbrev pub own_place : ℕ → List Timed → EpochScale
own_place account [] = (0, 0)
own_place account (t ∷ past) = if is_own_of account t.event then place_at past
    else own_place account past

-- what the sums' rounding may cost at a sharing, in 10^9ths of a unit: as much as an offset may
-- cost
abbrev pub cost_by : ℕ → ℕ → List Timed → ℕ
cost_by account minute past =
    if is_shared_at minute past
    then cost_of (recorded account past) (own_place account past) (place_at past)
    else 0

abbrev pub costs_of : ℕ → List Timed → ℕ
costs_of account [] = 0
costs_of account (t ∷ past) = costs_of account past + cost_by account t.minute past

abbrev pub costs_at : ℕ → ℕ → List Timed → ℕ
costs_at account minute past = costs_of account past + cost_by account minute past

-- what was withheld, what the sums may have cost, and four for each own operation
abbrev pub allowance_at : ℕ → ℕ → List Timed → ℕ
allowance_at account minute past =
    withheld_at account minute past
    + ceiling_of (costs_at account minute past) 1 (10 ^ 9)
    + 4 * own_events_of account (events_of past)

-- a reward is at most the exact one, and falls short of it by at most the allowance
pub record IsWithinAllowance (account minute : ℕ) (past : List Timed) (reward allowance : ℕ) :
    Type 0 where
  pub at_most : reward * (share_at account minute past).share.den
      ≤ (share_at account minute past).rew
  pub at_least : (share_at account minute past).rew
      ≤ (reward + allowance) * (share_at account minute past).share.den
