-- Entries in chunks: the first of each chunk, and beside it those that follow it.
use Rattle.std.specs.Prelude.{◌+◌, ◌<◌, ◌≤◌, ◌-◌, ◌≡◌, ℕ, true, false, List, [], ◌∷◌, ◌++◌, length, map, reverse, slice_index_or, Option, Vec}
use Rattle.std.specs.List.{AllByRecursion}
use Rattle.std.specs.Ordering.{is_lt}
use Rattle.liq_types.specs.Ranked.{Ranked, rank_order, first_of}

-- all entries, chunk by chunk
abbrev pub joined : List Ranked → List (List Ranked) → List Ranked
joined [] rests = []
joined (f ∷ fs) [] = []
joined (f ∷ fs) (r ∷ rs) = f ∷ (r ++ joined fs rs)

-- the chunks' entries behind the first
abbrev pub lists : {Z : Type 0} → Vec (Vec Ranked Z) Z → List (List Ranked)
lists rests = map (λ rest. rest.items) rests.items

abbrev pub entries : {Z : Type 0} → Vec Ranked Z → Vec (Vec Ranked Z) Z → List Ranked
entries firsts rests = joined firsts.items (lists rests)

-- no chunk has more than 63 entries behind its first
abbrev pub AreShort : List (List Ranked) → Type 0
AreShort rests = AllByRecursion (λ rest. length rest ≤ 63) rests

-- ---- reading

abbrev pub last_of : List Ranked → Option Ranked
last_of list = first_of (reverse list)

-- the last of a chunk
abbrev pub last_or : Ranked → List Ranked → Ranked
last_or first [] = first
last_or first (e ∷ es) = last_or e es

-- so many entries stand before one, and the next one does not
pub record IsPlace (list : List Ranked) (e : Ranked) (at : ℕ) : Type 0 where
  pub within : at ≤ length list
  pub low : (d : Ranked) → 0 < at → is_lt (rank_order (slice_index_or list (at - 1) d) e) ≡ true
  pub high : (d : Ranked) → at < length list
      → is_lt (rank_order (slice_index_or list at d) e) ≡ false

-- an entry stands in a chunk or would: the chunk begins before the entry or with it, unless it is
-- the first chunk, and the chunk behind it, if there is one, begins after the entry
pub record BelongsTo (firsts : List Ranked) (e : Ranked) (chunk : ℕ) : Type 0 where
  pub within : chunk < length firsts
  pub low : (d : Ranked) → 0 < chunk → is_lt (rank_order e (slice_index_or firsts chunk d)) ≡ false
  pub high : (d : Ranked) → chunk + 1 < length firsts
      → is_lt (rank_order e (slice_index_or firsts (chunk + 1) d)) ≡ true

-- an entry belongs to a chunk or to the one behind it
pub record BelongsToEither (firsts : List Ranked) (e : Ranked) (chunk : ℕ) : Type 0 where
  pub within : chunk + 1 < length firsts
  pub low : (d : Ranked) → 0 < chunk → is_lt (rank_order e (slice_index_or firsts chunk d)) ≡ false
  pub high : (d : Ranked) → chunk + 2 < length firsts
      → is_lt (rank_order e (slice_index_or firsts (chunk + 2) d)) ≡ true
