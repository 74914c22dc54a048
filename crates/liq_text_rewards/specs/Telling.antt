-- What was noted of commands, and when it can be followed from the opening on.
use Rattle.std.specs.Prelude.{ℕ, ◌≤◌, List, [], ◌∷◌, Option, None, Some, fold, length, map}
use Rattle.liq_types.specs.declared.events.PoolEvent.{PoolEvent}
use Rattle.liq_types.specs.declared.events.PoolEvent.TheVariants.{Own, Offset}
use Rattle.liq_types.specs.State.{opening}
use Rattle.liq_stability.specs.Lawful.{IsLawful}
use Rattle.liq_rewards.specs.declared.issuance.TheConstants.{EVENTS_MOST}
use Rattle.liq_rewards.specs.Timed.{Timed}
use Rattle.liq_text_rewards.specs.Happened.{happens}

-- an event, and the minute in which it happened
abbrev pub Note : Type 0
Note = ℕ × PoolEvent

abbrev pub notes_in : ℕ → List PoolEvent → List Note
notes_in minute events = map (λ e. (minute, e)) events

abbrev pub events_in : List Note → List PoolEvent
events_in notes = map (λ (note : Note). note.1) notes

abbrev pub noted : List Timed → Note → List Timed
noted past note = happens note.0 past note.1

abbrev pub past_in : List Note → List Timed
past_in notes = fold noted [] notes

-- from one minute to another the notes' minutes never fall
abbrev pub NeverFall : ℕ → List Note → ℕ → Type 0
NeverFall from [] to = from ≤ to
NeverFall from (note ∷ notes) to = (from ≤ note.0) × NeverFall note.0 notes to

pub record CanBeFollowed (notes : List Note) (minute : ℕ) : Type 0 where
  pub lawful : IsLawful opening (events_in notes)
  pub order : NeverFall 0 notes minute
  pub few : length notes ≤ EVENTS_MOST

-- whose own operation it is
abbrev pub owner_in : PoolEvent → Option ℕ
owner_in (Own owner put paid gain amount) = Some owner
owner_in (Offset debt coll total rise) = None
