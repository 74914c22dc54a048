-- Tables: entries in ascending keys, each key once.
use Rattle.std.specs.Prelude.{ℕ, Bool, List, Option, map, filter}
use Rattle.std.specs.BTreeMap.{insert_entry, is_at}
use Rattle.std.specs.Map.{lookup, remove_entry}
use Rattle.std.specs.Ordering.{nat_cmp}

abbrev pub Table : Type 0 → Type 0
Table X = List (ℕ × X)

-- an epoch and a scale: where the Stability Pool's sum is counted
abbrev pub EpochScale : Type 0
EpochScale = ℕ × ℕ

-- what the table has at a key
abbrev pub at : {X : Type 0} → Table X → ℕ → Option X
at table key = lookup (is_at (nat_cmp key)) table

-- the table with x at a key
abbrev pub put : {X : Type 0} → Table X → ℕ → X → Table X
put table key x = insert_entry nat_cmp table key x

-- the table with nothing at a key
abbrev pub without : {X : Type 0} → Table X → ℕ → Table X
without table key = remove_entry (is_at (nat_cmp key)) table

-- the rows that a test keeps
abbrev pub rows : {X : Type 0} → (X → Bool) → Table X → Table X
rows test table = filter (λ row. test row.1) table

-- each row changed by itself
abbrev pub map_rows : {X Y : Type 0} → (X → Y) → Table X → Table Y
map_rows f table = map (λ row. (row.0, f row.1)) table
