-- What is kept of all that happened.
use Rattle.std.specs.Prelude.{◌≡◌, ℕ, ◌+◌, ◌-◌, ◌^◌, ◌<◌, ◌≤◌, ◌||◌, ◌==◌, Bool, true, false, List, [], ◌∷◌, length}
use Rattle.std.specs.Prelude.{Option, None, Some, if◌then◌else◌}
use Rattle.std.specs.List.{AllByRecursion}
use Rattle.liq_types.specs.declared.events.PoolEvent.{PoolEvent}
use Rattle.liq_types.specs.declared.events.PoolEvent.TheVariants.{Own, Offset}
use Rattle.liq_types.specs.Allowance.{weight_of}
use Rattle.liq_types.specs.PlainLedger.{own_events_of}
use Rattle.liq_types.specs.State.{DepositEntry, opening}
use Rattle.liq_types.specs.Tables.{EpochScale, at}
use Rattle.liq_types.specs.Product.{after_offset}
use Rattle.liq_types.specs.declared.amounts.TheConstants.{LIM, P_LEAST, P_OPENING}
use Rattle.liq_stability.specs.Lawful.{IsLawful}
use Rattle.liq_stability.specs.Position.{growth, mark_of}
use Rattle.liq_stability.specs.Words.{words_in, offset_in}
use Rattle.liq_stability.specs.declared.words.PoolWords.{PoolWords}
use Rattle.liq_rewards.specs.declared.earner.Earner.{Earner}
use Rattle.liq_rewards.specs.declared.earner.Sums.{Sums}
use Rattle.liq_rewards.specs.declared.issuance.TheConstants.{EVENTS_MOST}
use Rattle.liq_rewards.specs.declared.rewards.RewardRow.{RewardRow}
use Rattle.liq_rewards.specs.Timed.{Timed, events_of, state_of, total_of, words_at, AreInOrder, due_at, unshared_of}
use Rattle.liq_rewards.specs.Earner.{no_earner, reward_by, allowance_by}
use Rattle.liq_rewards.specs.Earning.{reward_mark, sum_of, earned_of, reward_at}
use Rattle.liq_rewards.specs.Exact.{recorded, own_place, withheld_of, costs_of, allowance_at}

-- The minute of now; the units that are due then, and those that were not shared before; the pool's
-- words, of which product, place and total count; and the accounts that have room.
pub record Kept : Type 0 where
  pub minute : ℕ
  pub due : ℕ
  pub unshared : ℕ
  pub words : PoolWords
  pub earners : List Earner

-- ---- accounts

-- an account's row; without one it has done nothing
abbrev pub earner_in : List Earner → ℕ → Earner
earner_in [] account = no_earner account
earner_in (e ∷ es) account = if e.account == account then e else earner_in es account

-- an account has a row, and so room for its own operations
abbrev pub has_row : List Earner → ℕ → Bool
has_row [] account = false
has_row (e ∷ es) account = e.account == account || has_row es account

abbrev pub HasRoomFor : List Earner → PoolEvent → Type 0
HasRoomFor earners (Own owner put paid gain amount) = has_row earners owner ≡ true
HasRoomFor earners (Offset debt coll total rise) = Unit {0}

-- ---- that a row is an account's

-- how the sums of a deposit's epoch grew since its mark
abbrev pub sums_since : (EpochScale → ℕ) → ℕ → List Timed → DepositEntry → Sums
sums_since sums account past d =
    let mark = reward_mark account past d in
    let grown = growth mark (λ i. sums (mark.epoch, mark.scale + i)) in
    record { first = grown 0; second = grown 1; third = grown 2; fourth = grown 3 }

-- product and sums are those of the account's deposit, if it has one
abbrev pub IsDepositOf : (EpochScale → ℕ) → Earner → List Timed → Option DepositEntry → Type 0
IsDepositOf sums e past None = Unit {0}
IsDepositOf sums e past (Some d) =
    (e.p ≡ (mark_of (state_of past) d.mark).p) × (e.sums ≡ sums_since sums e.account past d)

pub record IsEarnerOf (e : Earner) (past : List Timed) : Type 0 where
  pub amount : e.amount ≡ recorded e.account past
  pub place : (e.epoch, e.scale) ≡ own_place e.account past
  pub earned : e.earned ≡ earned_of e.account past
  pub own_events : e.own_events ≡ own_events_of e.account (events_of past)
  pub weight : e.weight ≡ weight_of e.account (events_of past)
  pub withheld : e.withheld ≡ withheld_of e.account past
  pub costs : e.costs ≡ costs_of e.account past
  pub deposit : IsDepositOf (sum_of past) e past (at (state_of past).deposits e.account)

-- ---- that all of it stands for a list

-- the words that count; sum and collateral are the pool's own affair
abbrev pub words_kept : List Timed → PoolWords
words_kept past =
    let now = words_at past in
    record {
      p = now.p;
      scale = now.scale;
      epoch = now.epoch;
      sum = 0;
      total = total_of past;
      coll = 0;
    }

pub record IsKeptOf (k : Kept) (past : List Timed) : Type 0 where
  pub lawful : IsLawful opening (events_of past)
  pub order : AreInOrder k.minute past
  pub few : length past ≤ EVENTS_MOST
  pub due : k.due ≡ due_at k.minute past
  pub unshared : k.unshared ≡ unshared_of past
  pub words : k.words ≡ words_kept past
  pub rows : AllByRecursion (λ e. IsEarnerOf e past) k.earners
  pub others : (account : ℕ) → has_row k.earners account ≡ false
      → IsEarnerOf (no_earner account) past

-- one event more may happen
pub record MayHappen (t : Timed) (past : List Timed) : Type 0 where
  pub lawful : IsLawful opening (events_of (t ∷ past))
  pub few : length past < EVENTS_MOST

-- ---- the words that count, after an event

abbrev pub words_then : PoolWords → PoolEvent → PoolWords
words_then words (Own owner put paid gain amount) =
    record words { total = words.total - paid + put }
words_then words (Offset debt coll total rise) =
    let next = after_offset (words_in words) (offset_in words debt 0) in
    record {
      p = next.p;
      scale = next.scale;
      epoch = next.epoch;
      sum = 0;
      total = words.total
          - debt;
      coll = 0;
    }

pub record CanTake (words : PoolWords) (debt : ℕ) : Type 0 where
  pub some : 1 ≤ debt
  pub within : debt ≤ words.total
  pub limit : words.total ≤ LIM
  pub least : P_LEAST ≤ words.p
  pub most : words.p ≤ P_OPENING
  pub scale : words.scale ≤ 2 ^ 62
  pub epoch : words.epoch ≤ 2 ^ 62
  pub sum : words.sum ≡ 0
  pub coll : words.coll ≡ 0

abbrev pub CanHappen : PoolWords → PoolEvent → Type 0
CanHappen words (Own owner put paid gain amount) = (paid ≤ words.total)
    × (words.total - paid + put ≤ LIM)
CanHappen words (Offset debt coll total rise) = CanTake words debt

-- ---- what is answered

abbrev pub row_by : ℕ → Earner → RewardRow
row_by account e = record { account = account; reward = reward_by e; allow = allowance_by e }

abbrev pub row_of : ℕ → ℕ → List Timed → RewardRow
row_of account minute past =
    record {
      account = account;
      reward = reward_at account minute past;
      allow = allowance_at account minute past;
    }
