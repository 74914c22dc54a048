-- The Stability Pool's product and sums, over the list of its offsets.
use Rattle.std.specs.Prelude.{ℕ, zero, suc, ◌+◌, ◌-◌, ◌*◌, ◌^◌, ◌==◌, ◌&&◌, ◌≤◌, nat_le, Bool, List, [], ◌∷◌, fold, unwrap_or, if◌then◌else◌}
use Rattle.std.specs.BTreeMap.{insert_entry}
use Rattle.std.specs.Map.{lookup}
use Rattle.std.specs.Ordering.{nat_cmp, ordering_then}
use Rattle.std.specs.declared.cmp.Ordering.{Ordering}
use Rattle.liq_num.specs.Quotient.{floor_of}
use Rattle.liq_types.specs.declared.amounts.TheConstants.{LIM, P_OPENING, P_LEAST}
use Rattle.liq_types.specs.Image.{Image, EpochScale}
use Rattle.liq_types.specs.State.{PoolOffset, PoolMark}

-- the product, and the scale and the epoch in which it counts
pub record ScaledProduct : Type 0 where
  pub p : ℕ
  pub scale : ℕ
  pub epoch : ℕ

-- the product is whole
abbrev pub opening_words : ScaledProduct
opening_words = record { p = P_OPENING; scale = 0; epoch = 0 }

-- ---- the product

-- the least number from k on that passes the test, where one does within so many more
unfoldable pub least_from : (ℕ → Bool) → ℕ → ℕ → ℕ
least_from test k zero = k
least_from test k (suc more) =
    let later = least_from test (k + 1) more in
    if test k then k else later

-- the product after an offset that leaves a part of the pool, with the scale raised by so many
-- steps of 10^9
abbrev pub product_after : ℕ → PoolOffset → ℕ → ℕ
product_after p o steps = floor_of p ((o.total - o.debt) * 10 ^ (9 * steps)) o.total

-- More steps than any pool needs that has less than 10^270; a product of 0 would find none that
-- suffices.
abbrev pub STEPS_TRIED : ℕ
STEPS_TRIED = 30

-- by how many steps an offset raises the scale: the fewest that keep the product from falling below
-- its least
abbrev pub rise_of : ℕ → PoolOffset → ℕ
rise_of p o = if o.debt == o.total then 0
    else least_from (λ steps. nat_le P_LEAST (product_after p o steps)) 0 STEPS_TRIED

-- an offset of the whole pool ends the epoch
abbrev pub after_offset : ScaledProduct → PoolOffset → ScaledProduct
after_offset w o =
    let steps = rise_of w.p o in
    if o.debt == o.total
    then record opening_words { epoch = w.epoch + 1 }
    else record { p = product_after w.p o steps; scale = w.scale + steps; epoch = w.epoch }

-- ---- offsets of a pool within its limit

-- the offset takes some of the pool, and no more than all; the pool has no more than so much
pub record TakesPartUpTo (most : ℕ) (o : PoolOffset) : Type 0 where
  pub some : 1 ≤ o.debt
  pub within : o.debt ≤ o.total
  pub limit : o.total ≤ most

abbrev pub TakesPart : PoolOffset → Type 0
TakesPart o = TakesPartUpTo LIM o

pub record IsWithinRange (w : ScaledProduct) : Type 0 where
  pub least : P_LEAST ≤ w.p
  pub most : w.p ≤ P_OPENING

-- ---- over a list

abbrev pub start_words : Image → ScaledProduct
start_words i = record { p = i.p; scale = i.scale; epoch = i.epoch }

abbrev pub prod : Image → List PoolOffset → ScaledProduct
prod i offsets = fold after_offset (start_words i) offsets

-- ---- the sums

abbrev pub place_of : ScaledProduct → EpochScale
place_of w = (w.epoch, w.scale)

abbrev pub is_place : EpochScale → EpochScale → Bool
is_place a b = a.0 == b.0 && a.1 == b.1

-- places ascend by epoch and, within an epoch, by scale
abbrev pub place_order : EpochScale → EpochScale → Ordering
place_order a b = ordering_then (nat_cmp a.0 b.0) (nat_cmp a.1 b.1)

-- what an offset adds to the sum of its place
abbrev pub sum_growth : ScaledProduct → PoolOffset → ℕ
sum_growth w o = floor_of o.coll w.p o.total

-- what a list of offsets, made from these words on, adds to the sum of a place
abbrev pub growth_at : ScaledProduct → List PoolOffset → EpochScale → ℕ
growth_at w [] place = 0
growth_at w (o ∷ os) place =
    (if is_place (place_of w) place then sum_growth w o else 0) + growth_at (after_offset w o)
    os place

abbrev pub start_sum : Image → EpochScale → ℕ
start_sum i place =
    if is_place (i.epoch, i.scale) place then i.sum
    else unwrap_or (lookup (is_place place) i.finished) 0

abbrev pub sumat : Image → List PoolOffset → EpochScale → ℕ
sumat i offsets place = start_sum i place + growth_at (start_words i) offsets place

-- ---- the sums that are finished

-- the places that a list of offsets, made from these words on, leaves behind
abbrev pub places_left : ScaledProduct → List PoolOffset → List EpochScale
places_left w [] = []
places_left w (o ∷ os) =
    let next = after_offset w o in
    let later = places_left next os in
    if is_place (place_of w) (place_of next) then later else place_of w ∷ later

-- a finished sum of 0 is not kept
abbrev pub with_finished : List (EpochScale × ℕ) → EpochScale → ℕ → List (EpochScale × ℕ)
with_finished table place sum = if sum == 0 then table else insert_entry place_order table place sum

abbrev pub finished_sums : Image → List PoolOffset → List (EpochScale × ℕ)
finished_sums i offsets =
    fold (λ table place. with_finished table place (sumat i offsets place)) i.finished
    (places_left (start_words i) offsets)

-- ---- marks

-- the words at a mark, and the sum of their place at that moment
abbrev pub mark_after : Image → List PoolOffset → PoolMark
mark_after i offsets =
    let w = prod i offsets in
    record { p = w.p; sum = sumat i offsets (place_of w); scale = w.scale; epoch = w.epoch }
