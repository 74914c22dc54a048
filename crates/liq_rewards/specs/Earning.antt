-- What accounts earn, in whole units: at each place a sum for a whole deposit grows with each
-- sharing, and a deposit earns as the sums of its epoch have grown since its mark. Each division is
-- rounded down.
use Rattle.std.specs.Prelude.{ℕ, ◌+◌, List, [], ◌∷◌, Option, Some, None, if◌then◌else◌}
use Rattle.liq_num.specs.Quotient.{floor_of}
use Rattle.liq_types.specs.PlainLedger.{is_own_of}
use Rattle.liq_types.specs.Product.{is_place}
use Rattle.liq_types.specs.State.{PoolMark, DepositEntry}
use Rattle.liq_types.specs.Tables.{EpochScale, at}
use Rattle.liq_stability.specs.Position.{gain_by, mark_of}
use Rattle.liq_rewards.specs.Timed.{Timed, state_of, total_of, words_at, place_at, due_at, is_shared_at}

-- what a sharing gives a whole deposit, over 10^18, at the place of now
abbrev pub rise_by : ℕ → List Timed → ℕ
rise_by minute past = floor_of (due_at minute past) (words_at past).p (total_of past)

abbrev pub rise_at : ℕ → List Timed → EpochScale → ℕ
rise_at minute past place =
    if is_shared_at minute past then (if is_place (place_at past) place then rise_by minute past
    else 0) else 0

-- the sum of a place, after what was shared before each of the events
abbrev pub sum_of : List Timed → EpochScale → ℕ
sum_of [] place = 0
sum_of (t ∷ past) place = sum_of past place + rise_at t.minute past place

-- the sum of a place as of a minute, with what is due by then
abbrev pub sum_at : ℕ → List Timed → EpochScale → ℕ
sum_at minute past place = sum_of past place + rise_at minute past place

-- the sum of the place of then at the account's last own operation
abbrev pub mark_sum : ℕ → List Timed → ℕ
mark_sum account [] = 0
mark_sum account (t ∷ past) =
    if is_own_of account t.event then sum_at t.minute past (place_at past)
    else mark_sum account past

-- a deposit's mark, with this sum in place of that of the pool's collateral
abbrev pub reward_mark : ℕ → List Timed → DepositEntry → PoolMark
reward_mark account past d = record (mark_of (state_of past) d.mark) { sum = mark_sum account past }

-- the sums of a mark's epoch, from its scale on
abbrev pub sums_from : ℕ → List Timed → PoolMark → ℕ → ℕ
sums_from minute past mark i = sum_at minute past (mark.epoch, mark.scale + i)

-- what a deposit has earned since its mark; like a gain, at the mark's scale and the next three
abbrev pub reading : ℕ → ℕ → List Timed → Option DepositEntry → ℕ
reading account minute past None = 0
reading account minute past (Some d) =
    let mark = reward_mark account past d in
    gain_by d.amount mark (sums_from minute past mark)

-- what the account had earned at its last own operation
abbrev pub earned_of : ℕ → List Timed → ℕ
earned_of account [] = 0
earned_of account (t ∷ past) =
    if is_own_of account t.event
    then earned_of account past + reading account t.minute past
    (at (state_of past).deposits account)
    else earned_of account past

-- all that it has earned, as of a minute
abbrev pub reward_at : ℕ → ℕ → List Timed → ℕ
reward_at account minute past =
    earned_of account past + reading account minute past (at (state_of past).deposits account)
