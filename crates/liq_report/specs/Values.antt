-- The values of a report in JSON, what each account has, and a state's totals by their names.
use Rattle.std.specs.Prelude.{ℕ, List, [], ◌∷◌, Option, None, Some, codes, decimal, map, option_map}
use Rattle.std.specs.Borrow.{Bor}
use Rattle.liq_types.specs.declared.figures.Trove.{Trove}
use Rattle.liq_types.specs.declared.replies.Info.TheVariants as info
use Rattle.liq_types.specs.declared.replies.Reply.{Reply}
use Rattle.liq_types.specs.declared.replies.Reply.TheVariants.{Told}
use Rattle.liq_types.specs.State.{State, DepositEntry}
use Rattle.liq_types.specs.Tables.{at}
use Rattle.liq_types.specs.Totals.{stakes_of, total_coll, total_debt, trove_count}
use Rattle.liq_troves.specs.Rows.{entire_by}
use Rattle.liq_troves.specs.StakeSums.{sums_words, trove_rows}
use Rattle.liq_stability.specs.declared.words.PoolWords.{PoolWords}
use Rattle.liq_stability.specs.Position.{balance_of, gain_of}
use Rattle.liq_stability.specs.Words.{pool_words}
use Rattle.liq_rule_step.specs.Queries.{mode}
use Rattle.liq_report.specs.declared.objects.Totals.{Totals}
use Rattle.serde_json.specs.Data.{Data, Members, array, member, no_members, number, object, string, unsigned}
use Rattle.serde_json.specs.View.{items_of}

-- ---- objects

abbrev pub members_by : List (List ℕ × Data) → Members
members_by [] = no_members
members_by (m ∷ ms) = member m.0 m.1 (members_by ms)

-- an object of these members, in this order
abbrev pub object_by : List (List ℕ × Data) → Data
object_by members = object (members_by members)

abbrev pub count : ℕ → Data
count n = number (unsigned n)

-- numbers by their names
abbrev pub numbers_data : List (Bor (List ℕ) × ℕ) → Data
numbers_data numbers = object_by (map (λ n. (n.0.now, count n.1)) numbers)

-- a deposit with its balance and its gain
abbrev pub deposit_data : ℕ → ℕ × ℕ → Data
deposit_data account position = object_by (
    (codes "account", count account)
    ∷ (codes "balance", count position.0)
    ∷ (codes "gain", count position.1) ∷ [])

-- a trove with its entire collateral, its entire debt and its stake
abbrev pub trove_data : ℕ → ℕ × ℕ × ℕ → Data
trove_data account standing = object_by (
    (codes "account", count account)
    ∷ (codes "coll", count standing.0)
    ∷ (codes "debt", count standing.1)
    ∷ (codes "stake", count standing.2) ∷ [])

abbrev pub pool_data : PoolWords → Data
pool_data words = object_by (
    (codes "epoch", count words.epoch)
    ∷ (codes "p", string (decimal words.p))
    ∷ (codes "scale", count words.scale)
    ∷ (codes "sum", string (decimal words.sum)) ∷ [])

-- the totals by their names, each number as it is to be seen
abbrev pub members_of_totals : {X : Type 0} → (ℕ → X) → Totals → List (List ℕ × X)
members_of_totals seen t =
    (codes "base", seen t.base)
    ∷ (codes "coll", seen t.coll)
    ∷ (codes "debt", seen t.debt)
    ∷ (codes "fee_minute", seen t.fee_minute)
    ∷ (codes "minute", seen t.minute)
    ∷ (codes "mode", seen t.mode)
    ∷ (codes "price", seen t.price)
    ∷ (codes "records", seen t.records)
    ∷ (codes "stakes", seen t.stakes)
    ∷ (codes "troves", seen t.troves) ∷ []

abbrev pub totals_data : Totals → Data
totals_data t = object_by (members_of_totals count t)

-- ---- what a reply tells

-- balance and gain, where there is a deposit
abbrev pub deposit_in : Reply → Option (ℕ × ℕ)
deposit_in (Told (info.Deposit balance gain)) = Some (balance, gain)
deposit_in _ = None

-- entire collateral, entire debt and stake, where there is a trove
abbrev pub trove_in : Reply → Option (ℕ × ℕ × ℕ)
trove_in (Told (info.Trove coll debt stake)) = Some (coll, debt, stake)
trove_in _ = None

-- ---- a state's rows

-- balance and gain
abbrev pub position : State → ℕ → ℕ × ℕ
position s account = (balance_of s account, gain_of s account)

-- entire collateral, entire debt and stake
abbrev pub standing : State → Trove → ℕ × ℕ × ℕ
standing s t = ((entire_by (sums_words s) t).0, (entire_by (sums_words s) t).1, t.stake)

-- what an account has, if it has a deposit
abbrev pub deposit_at : State → ℕ → Option (ℕ × ℕ)
deposit_at s account = option_map (λ (d : DepositEntry). position s account)
    (at s.deposits account)

-- what an account has, if it has a trove
abbrev pub trove_at : State → ℕ → Option (ℕ × ℕ × ℕ)
trove_at s account = option_map (standing s) (at (trove_rows s) account)

abbrev pub deposit_of : State → ℕ × DepositEntry → Data
deposit_of s row = deposit_data row.0 (position s row.0)

abbrev pub trove_of : State → ℕ × Trove → Data
trove_of s row = trove_data row.0 (standing s row.1)

abbrev pub deposits_data : State → List Data
deposits_data s = map (deposit_of s) s.deposits

abbrev pub troves_data : State → List Data
troves_data s = map (trove_of s) (trove_rows s)

abbrev pub totals_of : State → Totals
totals_of s =
    record {
      price = s.price;
      minute = s.minute;
      base = s.base;
      fee_minute = s.fee_minute;
      mode = mode s;
      troves = trove_count s;
      stakes = stakes_of s;
      coll = total_coll s;
      debt = total_debt s;
      records = s.records;
    }

abbrev pub report_data : State → Data
report_data s = object_by (
    (codes "deposits", array (items_of (deposits_data s)))
    ∷ (codes "pool", pool_data (pool_words s))
    ∷ (codes "system", totals_data (totals_of s))
    ∷ (codes "troves", array (items_of (troves_data s))) ∷ [])
