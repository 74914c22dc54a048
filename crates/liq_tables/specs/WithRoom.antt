-- A table and the keys at which a row can be written without memory.
use Rattle.std.specs.Prelude.{ℕ, Bool, List, if◌then◌else◌}
use Rattle.std.specs.List.{Contains}
use Rattle.std.specs.Map.{keys_of}
use Rattle.liq_types.specs.Tables.{Table, rows, put, without}

pub record WithRoom (X : Type 0) : Type 0 where
  pub rows : Table X
  pub room : List ℕ

-- what is seen of entries of which some only keep room
abbrev pub seen : {X : Type 0} → (X → Bool) → Table X → WithRoom X
seen used entries = record { rows = rows used entries; room = keys_of entries }

-- there is room for a row at the key
abbrev pub HasRoom : {X : Type 0} → WithRoom X → ℕ → Type 0
HasRoom table key = Contains table.room key

-- wherever there was room there still is
abbrev pub KeepsRoom : {X : Type 0} → WithRoom X → WithRoom X → Type 0
KeepsRoom old new = (key : ℕ) → HasRoom old key → HasRoom new key

-- the rows after one was written: a row that is not used leaves none
abbrev pub written : {X : Type 0} → (X → Bool) → Table X → ℕ → X → Table X
written used table key row = if used row then put table key row else without table key
