-- The pool's words if they were rounded otherwise: of use in examples alone, which show that shares
-- would then be passed.
use Rattle.std.specs.Prelude.{ℕ, ◌+◌, ◌-◌, ◌*◌, ◌/◌, ◌%◌, ◌^◌, ◌==◌, nat_le, List, [], ◌∷◌, fold, take, if◌then◌else◌}
use Rattle.liq_num.specs.Quotient.{ceiling_of}
use Rattle.liq_types.specs.declared.amounts.TheConstants.{P_LEAST}
use Rattle.liq_types.specs.Tables.{EpochScale}
use Rattle.liq_types.specs.Product.{ScaledProduct, STEPS_TRIED, opening_words, least_from, after_offset, place_of, is_place}
use Rattle.liq_types.specs.State.{State, PoolOffset, PoolMark}
use Rattle.liq_stability.specs.Position.{balance_by, gain_by}

-- ---- the product rounded upward

abbrev pub product_upward : ℕ → PoolOffset → ℕ → ℕ
product_upward p o steps = ceiling_of p ((o.total - o.debt) * 10 ^ (9 * steps)) o.total

abbrev pub after_upward : ScaledProduct → PoolOffset → ScaledProduct
after_upward w o =
    let steps = least_from (λ k. nat_le P_LEAST (product_upward w.p o k)) 0 STEPS_TRIED in
    if o.debt == o.total
    then record opening_words { epoch = w.epoch + 1 }
    else record { p = product_upward w.p o steps; scale = w.scale + steps; epoch = w.epoch }

abbrev pub words_upward : List PoolOffset → ScaledProduct
words_upward offsets = fold after_upward opening_words offsets

-- what an amount is worth that was recorded after so many offsets
abbrev pub balance_upward : State → ℕ → ℕ → ℕ
balance_upward s amount items =
    let w = words_upward (take items s.offsets) in
    balance_by amount (record { p = w.p; sum = 0; scale = w.scale; epoch = w.epoch })
    (words_upward s.offsets)

-- ---- the remainder of a sum's quotient carried into the next offset

-- what offsets add to the sum of a place, with a remainder from before
abbrev pub carried_at : ScaledProduct → ℕ → List PoolOffset → EpochScale → ℕ
carried_at w carried [] place = 0
carried_at w carried (o ∷ os) place =
    let due = o.coll * w.p + carried in
    (if is_place (place_of w) place then due / o.total else 0) + carried_at (after_offset w o)
    (due % o.total) os place

-- what an amount gained that was recorded after so many offsets
abbrev pub gain_carried : State → ℕ → ℕ → ℕ
gain_carried s amount items =
    let before = take items s.offsets in
    let w = fold after_offset opening_words before in
    let sum = carried_at opening_words 0 before (place_of w) in
    let mark : PoolMark = record { p = w.p; sum = sum; scale = w.scale; epoch = w.epoch } in
    gain_by amount mark (λ i. carried_at opening_words 0 s.offsets (w.epoch, w.scale + i))
