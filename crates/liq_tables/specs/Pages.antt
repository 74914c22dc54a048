-- Rows that are found by their key: a page of numbers leads to each.
use Rattle.std.specs.Prelude.{◌≡◌, ℕ, zero, suc, ◌+◌, ◌*◌, ◌/◌, ◌%◌, ◌<◌, ◌≤◌, ◌⊎◌, List, [], ◌∷◌, Option, None, Some, length, get_or, slice_get}
use Rattle.liq_types.specs.Tables.{Table}
use Rattle.liq_tables.specs.declared.places.TheConstants.{KEYS, NONE}

-- the number at a key, in pages of so many keys: NONE where there is no page, or none in it
unfoldable pub place : List (List ℕ) → ℕ → ℕ
place pages key = get_or (get_or pages (key / KEYS) []) (key % KEYS) NONE

-- there is a page for the key
abbrev pub HasPage : List (List ℕ) → ℕ → Type 0
HasPage pages key = key % KEYS < length (get_or pages (key / KEYS) [])

-- the row whose number is at a key
abbrev pub row_at : {X : Type 0} → List (List ℕ) → List X → ℕ → Option X
row_at pages rows key = slice_get rows (place pages key)

abbrev pub with_row : {X : Type 0} → ℕ → Option X → Table X → Table X
with_row key None rest = rest
with_row key (Some row) rest = (key, row) ∷ rest

-- what is found at so many keys from one on, in ascending keys
unfoldable pub listed : {X : Type 0} → (ℕ → Option X) → ℕ → ℕ → Table X
listed found key zero = []
listed found key (suc more) = with_row key (found key) (listed found (key + 1) more)

-- the rows of all keys that have a page
abbrev pub entries : {X : Type 0} → List (List ℕ) → List X → Table X
entries pages rows = listed (row_at pages rows) 0 (KEYS * length pages)

-- each number leads to a row, and none to that of another key
pub record IsIndex {X : Type 0} (pages : List (List ℕ)) (rows : List X) : Type 0 where
  pub few : length rows ≤ NONE
  pub known : (key : ℕ) → (place pages key < length rows) ⊎ (place pages key ≡ NONE)
  pub apart : (j k : ℕ) → place pages j < length rows → place pages j ≡ place pages k → j ≡ k
