-- Rows of accounts, each as of its last change. Offsets that leave the pool at its place cost an
-- account the same each: they are counted, and no row changes.
use Rattle.std.specs.Prelude.{◌≡◌, ℕ, ◌+◌, ◌-◌, ◌*◌, ◌<◌, ◌≤◌, List, map, length, get_or, Option, Some}
use Rattle.std.specs.List.{AllByRecursion}
use Rattle.liq_types.specs.declared.events.PoolEvent.{PoolEvent}
use Rattle.liq_types.specs.declared.events.PoolEvent.TheVariants.{Own, Offset}
use Rattle.liq_types.specs.Tables.{Table, at}
use Rattle.liq_stability.specs.declared.words.PoolWords.{PoolWords}
use Rattle.liq_rewards.specs.declared.earner.Earner.{Earner}
use Rattle.liq_rewards.specs.declared.rows.Row.{Row}
use Rattle.liq_rewards.specs.declared.sharing.Sharing.{Sharing}
use Rattle.liq_rewards.specs.Earner.{no_earner, cost_now, earner_after}

-- the rows, and how many offsets are counted
pub record Counted : Type 0 where
  pub offsets : ℕ
  pub rows : List Row

abbrev pub no_row : ℕ → Row
no_row account = record { earner = no_earner account; counted = 0 }

-- an account as of now: the offsets that its row lacks cost it what one costs it now
abbrev pub now_of : PoolWords → ℕ → Row → Earner
now_of words offsets row =
    record row.earner {
      weight = row.earner.weight + (offsets - row.counted) * cost_now
          row.earner words;
    }

abbrev pub all_now : PoolWords → Counted → List Earner
all_now words kept = map (now_of words kept.offsets) kept.rows

-- a row once what is due is dealt with, and then after an event
abbrev pub changed_by : PoolWords → Option Sharing → PoolEvent → ℕ → ℕ → Row → Row
changed_by words sharing event offsets counted row =
    record {
      earner = earner_after words sharing event (now_of words offsets row);
      counted = counted;
    }

-- ---- where rows stand

abbrev pub accounts_of : List Row → List ℕ
accounts_of rows = map (λ row. row.earner.account) rows

abbrev pub row_at : List Row → ℕ → Row
row_at rows place = get_or rows place (no_row 0)

pub record IsRowOf (rows : List Row) (account place : ℕ) : Type 0 where
  pub within : place < length rows
  pub owner : (row_at rows place).earner.account ≡ account

-- an account's number leads to its row
pub record AreFound (numbers : Table ℕ) (accounts : List ℕ) : Type 0 where
  pub each : (place : ℕ) → place < length accounts → at numbers (get_or accounts place 0)
      ≡ Some (place + 1)
  pub least : (account number : ℕ) → at numbers account ≡ Some number → 1 ≤ number
  pub most : (account number : ℕ) → at numbers account ≡ Some number → number ≤ length accounts
  pub back : (account number : ℕ) → at numbers account ≡ Some number
      → get_or accounts (number - 1) 0 ≡ account

pub record AreRows (numbers : Table ℕ) (offsets : ℕ) (rows : List Row) : Type 0 where
  pub found : AreFound numbers (accounts_of rows)
  pub counted : AllByRecursion (λ row. row.counted ≤ offsets) rows

-- an own operation of the account
abbrev pub IsOwnBy : PoolEvent → ℕ → Type 0
IsOwnBy (Own owner put paid gain amount) account = owner ≡ account
IsOwnBy (Offset debt coll total rise) account = ⊥
