-- The report of a state: its totals, the Stability Pool's words, and each trove and deposit as it
-- stands. It is one object in JSON, without spaces, and the names of every object ascend.
use Rattle.std.specs.Prelude.{ℕ, List, [], ◌∷◌, codes, decimal, map}
use Rattle.std.specs.Map.{keys_of}
use Rattle.liq_types.specs.declared.figures.Trove.{Trove}
use Rattle.liq_types.specs.State.{State}
use Rattle.liq_types.specs.Totals.{stakes_of, total_coll, total_debt, trove_count}
use Rattle.liq_troves.specs.declared.sums.Sums.{Sums}
use Rattle.liq_troves.specs.Rows.{entire_by}
use Rattle.liq_troves.specs.StakeSums.{sums_words, trove_rows}
use Rattle.liq_stability.specs.Position.{balance_of, gain_of}
use Rattle.liq_stability.specs.Words.{pool_words}
use Rattle.liq_rule_step.specs.Queries.{mode}
use Rattle.liq_report.specs.Texts.{list_text, object_text, string_text}

-- an account's deposit: what is left of it, and what it has gained
abbrev pub deposit_text : State → ℕ → List ℕ
deposit_text s account = object_text (
    (codes "account", decimal account)
    ∷ (codes "balance", decimal (balance_of s account))
    ∷ (codes "gain", decimal (gain_of s account)) ∷ [])

-- an account's trove, with its entire amounts: what is recorded and what is pending
abbrev pub trove_text : Sums → ℕ × Trove → List ℕ
trove_text sums row = object_text (
    (codes "account", decimal row.0)
    ∷ (codes "coll", decimal (entire_by sums row.1).0)
    ∷ (codes "debt", decimal (entire_by sums row.1).1)
    ∷ (codes "stake", decimal row.1.stake) ∷ [])

-- the Stability Pool's words; product and sum are words of 128 bits, and strings of digits
abbrev pub pool_text : State → List ℕ
pool_text s =
    let words = pool_words s in object_text (
    (codes "epoch", decimal words.epoch)
    ∷ (codes "p", string_text (decimal words.p))
    ∷ (codes "scale", decimal words.scale)
    ∷ (codes "sum", string_text (decimal words.sum)) ∷ [])

-- the mode is 1 in Recovery Mode
abbrev pub system_text : State → List ℕ
system_text s = object_text (
    (codes "base", decimal s.base)
    ∷ (codes "coll", decimal (total_coll s))
    ∷ (codes "debt", decimal (total_debt s))
    ∷ (codes "fee_minute", decimal s.fee_minute)
    ∷ (codes "minute", decimal s.minute)
    ∷ (codes "mode", decimal (mode s))
    ∷ (codes "price", decimal s.price)
    ∷ (codes "records", decimal s.records)
    ∷ (codes "stakes", decimal (stakes_of s))
    ∷ (codes "troves", decimal (trove_count s)) ∷ [])

-- in ascending accounts, as their tables are
abbrev pub deposits_text : State → List ℕ
deposits_text s = list_text (map (deposit_text s) (keys_of s.deposits))

abbrev pub troves_text : State → List ℕ
troves_text s = list_text (map (trove_text (sums_words s)) (trove_rows s))

unfoldable pub report_text : State → List ℕ
report_text s = object_text (
    (codes "deposits", deposits_text s)
    ∷ (codes "pool", pool_text s)
    ∷ (codes "system", system_text s)
    ∷ (codes "troves", troves_text s) ∷ [])
