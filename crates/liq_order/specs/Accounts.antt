-- The places of accounts, as rows in ascending accounts. The row of an account that left is marked:
-- it has, in place of a place, one that no node has.
use Rattle.std.specs.Prelude.{◌≡◌, ℕ, ◌+◌, ◌<◌, ◌≤◌, ◌/◌, Bool, true, false, List, [], ◌∷◌, length, if◌then◌else◌, ◌==◌, slice_index_or, Some, None, Option}
use Rattle.std.specs.List.{count_by}
use Rattle.liq_order.specs.declared.places.NodeNo.{NodeNo}

-- an account, then its place
abbrev pub Row : Type 0
Row = ℕ × NodeNo

-- so many rows are marked, and so many more accounts can get a place without memory
pub record Rows : Type 0 where
  pub rows : List Row
  pub marked : ℕ
  pub room : ℕ

-- what a marked row has: a place that no node has
abbrev pub mark : ℕ
mark = 4294967295

-- a row's place: none where the row is marked
abbrev pub unless_marked : NodeNo → Option NodeNo
unless_marked place = if place.0 == mark then None else Some place

-- what the first row of the account has for its place
abbrev pub row_of : List Row → ℕ → Option NodeNo
row_of [] account = None
row_of (row ∷ rows) account = if row.0 == account then Some row.1 else row_of rows account

-- the same of a row that may be missing
abbrev pub place_unless_marked : Option NodeNo → Option NodeNo
place_unless_marked None = None
place_unless_marked (Some place) = unless_marked place

-- where the row is marked, the account has no place
abbrev pub place_of : Rows → ℕ → Option NodeNo
place_of p account = place_unless_marked (row_of p.rows account)

-- no account's place changes
abbrev pub SamePlaces : Rows → Rows → Type 0
SamePlaces old new = (account : ℕ) → place_of new account ≡ place_of old account

-- the account's place is this one, or it has none, and no other place changes
abbrev pub PlacesWith : Rows → ℕ → Option NodeNo → Rows → Type 0
PlacesWith old account place new =
    (a : ℕ) → place_of new a ≡ (if account == a then place else place_of old a)

abbrev pub is_marked : Row → Bool
is_marked row = row.1.0 == mark

abbrev pub has_place : Row → Bool
has_place row = if is_marked row then false else true

-- ---- ascending rows

abbrev pub account_at : List Row → ℕ → ℕ
account_at rows i = let row = slice_index_or rows i (0, record { 0 = 0 }) in row.0

abbrev pub IsStrict : List Row → Type 0
IsStrict rows = (i j : ℕ) → i < j → j < length rows → account_at rows i < account_at rows j

pub record IsRowAt (rows : List Row) (account i : ℕ) : Type 0 where
  pub in_range : i < length rows
  pub has_account : account_at rows i ≡ account

-- smaller accounts before an index, and greater ones from it on
pub record IsGapFor (rows : List Row) (account i : ℕ) : Type 0 where
  pub in_range : i ≤ length rows
  pub smaller_before : (j : ℕ) → j < i → account_at rows j < account
  pub greater_after : (j : ℕ) → i ≤ j → j < length rows → account < account_at rows j

-- Rows in ascending accounts, of which so many are marked: a quarter of them at most, and one more.
pub record AreRows (rows : List Row) (marked : ℕ) : Type 0 where
  pub strict : IsStrict rows
  pub counted : marked ≡ count_by is_marked rows
  pub few : marked ≤ length rows / 4 + 1
