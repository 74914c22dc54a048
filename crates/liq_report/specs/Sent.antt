-- What is sent of a report to be written.
use Rattle.std.specs.Prelude.{ℕ, List, None, Some, codes}
use Rattle.liq_types.specs.State.{State}
use Rattle.liq_stability.specs.Words.{pool_words}
use Rattle.serde.specs.Event.{Log, Logs, field_key, map_begins, map_ends, seq_begins}
use Rattle.serde.specs.declared.name.Case.TheVariants.{AsIs}
use Rattle.serde_json.specs.Data.{Data}
use Rattle.serde_json.specs.Events.{SendsItems, SendsValue}
use Rattle.serde_json.specs.View.{items_of}
use Rattle.liq_report.specs.Values.{deposits_data, pool_data, totals_data, totals_of, troves_data}

-- a list of values, whose number is not told ahead
abbrev pub SendsList : List Data → Log → Log → Type 0
SendsList ds old new = (first : Log) × Logs old first (seq_begins None)
    × SendsItems (items_of ds) first new

-- a name, what is sent behind it, and the rest
abbrev pub SendsNamed : List ℕ → (Log → Log → Type 0) → (Log → Log → Type 0) → Log → Log → Type 0
SendsNamed name value rest old new = (named mid : Log) × Logs old named (field_key name AsIs)
    × value named mid × rest mid new

-- an object of four members
abbrev pub SendsReport : State → Log → Log → Type 0
SendsReport s old new = (first : Log) × Logs old first (map_begins (Some 4))
    × SendsNamed (codes "deposits") (SendsList (deposits_data s))
    (SendsNamed (codes "pool") (SendsValue (pool_data (pool_words s)))
    (SendsNamed (codes "system") (SendsValue (totals_data (totals_of s)))
    (SendsNamed (codes "troves") (SendsList (troves_data s))
    (λ mid end. Logs mid end map_ends)))) first new
