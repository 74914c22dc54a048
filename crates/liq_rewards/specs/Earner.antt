-- What is kept of an account, and what a sharing and an event make of it.
use Rattle.std.specs.Prelude.{ℕ, ◌+◌, ◌*◌, ◌^◌, ◌≤◌, ◌==◌, ◌&&◌, nat_le, not, Option, Some, None, if◌then◌else◌}
use Rattle.liq_num.specs.Quotient.{floor_of, ceiling_of}
use Rattle.liq_types.specs.declared.amounts.TheConstants.{LIM, P_LEAST}
use Rattle.liq_types.specs.declared.events.PoolEvent.{PoolEvent}
use Rattle.liq_types.specs.declared.events.PoolEvent.TheVariants.{Own, Offset}
use Rattle.liq_types.specs.Allowance.{cost_of}
use Rattle.liq_types.specs.Product.{is_place}
use Rattle.liq_stability.specs.declared.words.PoolWords.{PoolWords}
use Rattle.liq_rewards.specs.declared.earner.Earner.{Earner}
use Rattle.liq_rewards.specs.declared.earner.Sums.{Sums}
use Rattle.liq_rewards.specs.declared.sharing.Sharing.{Sharing}
use Rattle.liq_rewards.specs.declared.issuance.TheConstants.{SHARED_LEAST, UNITS_MOST}

-- ---- a sharing

-- units that are due, where they are shared
abbrev pub sharing_of : PoolWords → ℕ → Option Sharing
sharing_of words units =
    if not (units == 0) && nat_le SHARED_LEAST words.total
    then Some (record { units = units; rise = floor_of units words.p words.total })
    else None

-- ---- an account

abbrev pub no_sums : Sums
no_sums = record { first = 0; second = 0; third = 0; fourth = 0 }

-- an account without an own operation
abbrev pub no_earner : ℕ → Earner
no_earner account =
    record {
      account = account;
      amount = 0;
      p = 0;
      scale = 0;
      epoch = 0;
      sums = no_sums;
      earned = 0;
      own_events = 0;
      weight = 0;
      withheld = 0;
      costs = 0;
    }

-- what rounding may cost it at an offset or a sharing of now
abbrev pub cost_now : Earner → PoolWords → ℕ
cost_now e words = cost_of e.amount (e.epoch, e.scale) (words.epoch, words.scale)

-- by how much an account's balance may fall short
abbrev pub balance_short : Earner → ℕ
balance_short e = ceiling_of e.weight 1 (10 ^ 9) + e.own_events

-- a sum of so many scales above the mark, once the sum of now has risen
abbrev pub risen : Earner → PoolWords → ℕ → ℕ → ℕ → ℕ
risen e words rise i sum = sum + (if is_place (words.epoch, words.scale) (e.epoch, e.scale + i)
    then rise else 0)

abbrev pub sums_risen : Earner → PoolWords → ℕ → Sums
sums_risen e words rise =
    record {
      first = risen e words rise 0 e.sums.first;
      second = risen e words rise 1 e.sums.second;
      third = risen e words rise 2 e.sums.third;
      fourth = risen e words rise 3 e.sums.fourth;
    }

-- what is kept of an account once units were shared
abbrev pub shared_with : Earner → PoolWords → Sharing → Earner
shared_with e words sharing =
    record e {
      sums = if e.amount == 0 then e.sums else sums_risen e words sharing.rise;
      withheld = e.withheld + ceiling_of sharing.units (balance_short e) words.total;
      costs = e.costs + cost_now e words;
    }

abbrev pub dealt_with : Earner → PoolWords → Option Sharing → Earner
dealt_with e words None = e
dealt_with e words (Some sharing) = shared_with e words sharing

-- what it has earned since its mark, at the mark's scale and the next three
abbrev pub part_by : Earner → ℕ → ℕ → ℕ
part_by e i sum = floor_of e.amount sum (e.p * 10 ^ (9 * i))

abbrev pub reading_by : Earner → ℕ
reading_by e =
    if e.amount == 0 then 0
    else part_by e 0 e.sums.first + part_by e 1 e.sums.second + part_by e 2 e.sums.third
    + part_by e 3 e.sums.fourth

abbrev pub reward_by : Earner → ℕ
reward_by e = e.earned + reading_by e

-- an account after an own operation that leaves an amount, which counts from now on
abbrev pub owned_by : Earner → PoolWords → ℕ → Earner
owned_by e words amount =
    record e {
      amount = amount;
      p = words.p;
      scale = words.scale;
      epoch = words.epoch;
      sums = no_sums;
      earned = reward_by e;
      own_events = e.own_events + 1;
    }

-- an account after an event, before which the pool had these words
abbrev pub with_event : Earner → PoolWords → PoolEvent → Earner
with_event e words (Own owner put paid gain amount) = if owner == e.account
    then owned_by e words amount else e
with_event e words (Offset debt coll total rise) = record e { weight = e.weight + cost_now e words }

-- an account after a sharing and then an event
abbrev pub earner_after : PoolWords → Option Sharing → PoolEvent → Earner → Earner
earner_after words sharing event e = with_event (dealt_with e words sharing) words event

abbrev pub allowance_by : Earner → ℕ
allowance_by e = e.withheld + ceiling_of e.costs 1 (10 ^ 9) + 4 * e.own_events

-- ---- that its numbers are small

-- the most that a sum comes to
abbrev pub SUM_MOST : ℕ
SUM_MOST = UNITS_MOST * 10 ^ 9

pub record IsSmallSharing (words : PoolWords) (sharing : Sharing) : Type 0 where
  pub units : sharing.units ≤ UNITS_MOST
  pub rise : sharing.rise ≤ SUM_MOST
  pub total : SHARED_LEAST ≤ words.total

abbrev pub IsSmallDue : PoolWords → Option Sharing → Type 0
IsSmallDue words None = Unit {0}
IsSmallDue words (Some sharing) = IsSmallSharing words sharing

pub record HasSmallSums (e : Earner) : Type 0 where
  pub p : P_LEAST ≤ e.p
  pub first : e.sums.first ≤ SUM_MOST
  pub second : e.sums.second ≤ SUM_MOST
  pub third : e.sums.third ≤ SUM_MOST
  pub fourth : e.sums.fourth ≤ SUM_MOST

pub record IsSmall (e : Earner) : Type 0 where
  pub amount : e.amount ≤ LIM
  pub scale : e.scale ≤ 2 ^ 62
  pub own_events : e.own_events ≤ 2 ^ 40
  pub weight : e.weight ≤ 2 ^ 104
  pub withheld : e.withheld ≤ 2 ^ 123
  pub costs : e.costs ≤ 2 ^ 104
  pub sums : 1 ≤ e.amount → HasSmallSums e

-- also once what is due is dealt with
pub record CanGoOn (words : PoolWords) (sharing : Option Sharing) (e : Earner) : Type 0 where
  pub due : IsSmallDue words sharing
  pub before : IsSmall e
  pub after : IsSmall (dealt_with e words sharing)
  pub reward : reward_by (dealt_with e words sharing) ≤ UNITS_MOST
