-- The words of the Stability Pool: what an offset makes of them, and what they are in a state.
use Rattle.std.specs.Prelude.{ℕ, ◌+◌, ◌-◌, ◌||◌, ◌==◌, List, Option, Some, None, if◌then◌else◌}
use Rattle.std.specs.BTreeMap.{insert_entry}
use Rattle.liq_types.specs.declared.amounts.TheConstants.{P_OPENING}
use Rattle.liq_types.specs.Tables.{EpochScale}
use Rattle.liq_types.specs.Product.{ScaledProduct, after_offset, prod, sumat, sum_growth, place_of, is_place, place_order}
use Rattle.liq_types.specs.State.{State, PoolOffset}
use Rattle.liq_types.specs.Totals.{pool_total, pool_coll}
use Rattle.liq_stability.specs.declared.words.PoolWords.{PoolWords}
use Rattle.liq_types.specs.declared.image.FinishedSum.{FinishedSum}

-- ---- over the words as they are kept

-- those of a pool in which nothing has happened: the product is whole
abbrev pub opening_pool : PoolWords
opening_pool = record { p = P_OPENING; scale = 0; epoch = 0; sum = 0; total = 0; coll = 0 }

-- the product, and where it counts
abbrev pub words_in : PoolWords → ScaledProduct
words_in w = record { p = w.p; scale = w.scale; epoch = w.epoch }

-- the pool takes over debt for collateral
abbrev pub offset_in : PoolWords → ℕ → ℕ → PoolOffset
offset_in w debt coll = record { debt = debt; coll = coll; total = w.total }

-- the sum of the words' place, with what an offset adds to it
abbrev pub sum_with : PoolWords → ℕ → ℕ → ℕ
sum_with w debt coll = w.sum + sum_growth (words_in w) (offset_in w debt coll)

-- A sum counts at its place alone: where an offset leaves the place, the next one begins at 0.
abbrev pub words_after : PoolWords → ℕ → ℕ → PoolWords
words_after w debt coll =
    let next = after_offset (words_in w) (offset_in w debt coll) in
    record {
      p = next.p;
      scale = next.scale;
      epoch = next.epoch;
      sum = if is_place (place_of (words_in w)) (place_of next) then sum_with w debt coll else 0;
      total = w.total - debt;
      coll = w.coll + coll;
    }

-- the sum that an offset finishes: that of the place that it leaves, if it is not 0
abbrev pub finished_by : PoolWords → ℕ → ℕ → Option FinishedSum
finished_by w debt coll =
    let next = after_offset (words_in w) (offset_in w debt coll) in
    let sum = sum_with w debt coll in
    if is_place (place_of (words_in w)) (place_of next) || sum == 0
    then None
    else Some (record { epoch = w.epoch; scale = w.scale; sum = sum })

-- a table of finished sums with the one that an offset finishes, if it finishes one
abbrev pub finished_with : List (EpochScale × ℕ) → Option FinishedSum → List (EpochScale × ℕ)
finished_with table None = table
finished_with table (Some f) = insert_entry place_order table (f.epoch, f.scale) f.sum

-- ---- in a state

abbrev pub words_of : State → ScaledProduct
words_of s = prod s.start s.offsets

abbrev pub pool_words : State → PoolWords
pool_words s =
    let now = words_of s in
    record {
      p = now.p;
      scale = now.scale;
      epoch = now.epoch;
      sum = sumat s.start s.offsets (place_of now);
      total = pool_total s;
      coll = pool_coll s;
    }
