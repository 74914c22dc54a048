-- The allowance: by how much an account's balance and gain may fall short of its exact share.
use Rattle.std.specs.Prelude.{ℕ, ◌+◌, ◌-◌, ◌*◌, ◌^◌, ◌==◌, ◌&&◌, not, List, [], ◌∷◌, if◌then◌else◌}
use Rattle.liq_num.specs.Quotient.{ceiling_of}
use Rattle.liq_types.specs.declared.events.PoolEvent.{PoolEvent}
use Rattle.liq_types.specs.declared.events.PoolEvent.TheVariants.{Own, Offset}
use Rattle.liq_types.specs.Image.{EpochScale}
use Rattle.liq_types.specs.PlainLedger.{own_events_of}
use Rattle.liq_types.specs.Product.{ScaledProduct, opening_words, after_offset, place_of}

-- What an offset may cost an account of which this amount was recorded at this place, in 10^9ths of
-- a unit: the amount as it counts after the scale's rises since then. An epoch that has ended costs
-- nothing more.
abbrev pub cost_of : ℕ → EpochScale → EpochScale → ℕ
cost_of amount place now =
    if not (amount == 0) && now.0 == place.0
    then ceiling_of amount 1 (10 ^ (9 * (now.1 - place.1)))
    else 0

-- what all offsets of the events may cost it, from these words on
abbrev pub costs_from : ℕ → ScaledProduct → ℕ → EpochScale → List PoolEvent → ℕ
costs_from account now amount place [] = 0
costs_from account now amount place (Own owner put paid gain left ∷ es) =
    let recorded = if owner == account then left else amount in
    let at = if owner == account then place_of now else place in
    costs_from account now recorded at es
costs_from account now amount place (Offset debt coll total rise ∷ es) =
    cost_of amount place (place_of now)
    + costs_from account (after_offset now (record { debt = debt; coll = coll; total = total }))
    amount place es

-- the weight from the opening on, where nothing is recorded
abbrev pub weight_of : ℕ → List PoolEvent → ℕ
weight_of account events = costs_from account opening_words 0 (0, 0) events

abbrev pub balance_allowance : ℕ → List PoolEvent → ℕ
balance_allowance account events = ceiling_of (weight_of account events) 1 (10 ^ 9)
    + own_events_of account events

abbrev pub gain_allowance : ℕ → List PoolEvent → ℕ
gain_allowance account events = ceiling_of 12 (weight_of account events) (10 ^ 9)
    + 15 * own_events_of account events
