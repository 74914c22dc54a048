-- What happens to the Stability Pool, and when. A list of it has the latest first: what stands
-- behind an item is what happened before it.
use Rattle.std.specs.Prelude.{ℕ, ◌+◌, ◌-◌, ◌≤◌, ◌==◌, ◌&&◌, nat_le, not, Bool, List, [], ◌∷◌, ◌++◌, if◌then◌else◌}
use Rattle.liq_types.specs.declared.events.PoolEvent.{PoolEvent}
use Rattle.liq_types.specs.Product.{ScaledProduct, place_of}
use Rattle.liq_types.specs.State.{State}
use Rattle.liq_types.specs.Tables.{EpochScale}
use Rattle.liq_types.specs.Totals.{pool_total}
use Rattle.liq_stability.specs.Own.{after_events}
use Rattle.liq_stability.specs.Words.{words_of}
use Rattle.liq_rewards.specs.declared.issuance.TheConstants.{SHARED_LEAST}
use Rattle.liq_rewards.specs.Issued.{issued}

pub record Timed : Type 0 where
  pub minute : ℕ
  pub event : PoolEvent

abbrev pub timed : ℕ → PoolEvent → Timed
timed minute event = record { minute = minute; event = event }

-- the events alone, in the order in which they happened
abbrev pub events_of : List Timed → List PoolEvent
events_of [] = []
events_of (t ∷ past) = events_of past ++ t.event ∷ []

-- the pool that they lead to: its state, its total (micro-LUSD), its product, and the place at
-- which it counts
abbrev pub state_of : List Timed → State
state_of past = after_events (events_of past)

abbrev pub total_of : List Timed → ℕ
total_of past = pool_total (state_of past)

abbrev pub words_at : List Timed → ScaledProduct
words_at past = words_of (state_of past)

abbrev pub place_at : List Timed → EpochScale
place_at past = place_of (words_at past)

-- the minute of the last event
abbrev pub minute_of : List Timed → ℕ
minute_of [] = 0
minute_of (t ∷ past) = t.minute

-- minutes never fall, and this one is none before the last
abbrev pub AreInOrder : ℕ → List Timed → Type 0
AreInOrder minute [] = Unit {0}
AreInOrder minute (t ∷ past) = (t.minute ≤ minute) × AreInOrder t.minute past

-- ---- what is due at a moment, before the next event: that of the minutes since the last one

abbrev pub due_at : ℕ → List Timed → ℕ
due_at minute past = issued minute - issued (minute_of past)

-- what is due is shared by all depositors, where there is any and the pool has enough
abbrev pub is_shared_at : ℕ → List Timed → Bool
is_shared_at minute past = not (due_at minute past == 0) && nat_le SHARED_LEAST (total_of past)

abbrev pub shared_by : ℕ → List Timed → ℕ
shared_by minute past = if is_shared_at minute past then due_at minute past else 0

abbrev pub unshared_by : ℕ → List Timed → ℕ
unshared_by minute past = if is_shared_at minute past then 0 else due_at minute past

-- ---- all units so far: those dealt with before each of the events, and those as of a minute

abbrev pub shared_of : List Timed → ℕ
shared_of [] = 0
shared_of (t ∷ past) = shared_of past + shared_by t.minute past

abbrev pub shared_at : ℕ → List Timed → ℕ
shared_at minute past = shared_of past + shared_by minute past

abbrev pub unshared_of : List Timed → ℕ
unshared_of [] = 0
unshared_of (t ∷ past) = unshared_of past + unshared_by t.minute past

abbrev pub unshared_at : ℕ → List Timed → ℕ
unshared_at minute past = unshared_of past + unshared_by minute past
