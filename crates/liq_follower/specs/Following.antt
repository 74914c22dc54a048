-- A follower, and the bytes that it has taken.
use Rattle.std.specs.Prelude.{◌≡◌, ◌≢◌, ◌⊎◌, ◌<◌, ◌≤◌, ℕ, ◌-◌, ◌^◌, List, [], ◌∷◌, ◌++◌, length, min, Option, Some, None}
use Rattle.liq_types.specs.State.{State, opening, opening_with}
use Rattle.liq_core.specs.Core.{Core, StandsFor}
use Rattle.liq_follower.specs.declared.phase.Phase.{Phase}
use Rattle.liq_follower.specs.declared.phase.Phase.TheVariants.{Start, Header, Gate, Inside, Shut, Damaged, Rotated}
use Rattle.liq_follower.specs.declared.answers.FedEnd.{FedEnd}
use Rattle.liq_follower.specs.declared.answers.FedEnd.TheVariants as end
use Rattle.liq_follower.specs.Fed.{AreDamagedAt, AreTurnedTo, Completes, EndsWhole, IsBegun, LackOne, LeadTo, begun_limit}

-- what contracts see of a follower: its protocol, where in the journal it is, the bytes of a header
-- or a record that isn't whole, and how many bytes it has taken
pub record Followed : Type 0 where
  pub core : Core
  pub phase : Phase
  pub held : List ℕ
  pub taken : ℕ

-- a whole journal that leads to the core's state
abbrev pub EndsAs : List ℕ → Core → Type 0
EndsAs bytes core = (s : State) × EndsWhole bytes s × StandsFor core s

-- the bytes go on behind a closed gate: that of a header, or that of a record
pub record IsShut (bytes : List ℕ) (core : Core) : Type 0 where
  pub front : List ℕ
  pub gate : ℕ
  pub rest : List ℕ
  pub are : bytes ≡ front ++ gate ∷ rest
  pub shut : gate ≢ 1
  pub whole : ((front ≡ []) × StandsFor core opening) ⊎ EndsAs front core

-- all of them but the last one hold no fault, and the core stands for the state to which those lead
pub record StandsBeforeLast (bytes : List ℕ) (core : Core) : Type 0 where
  pub front : List ℕ
  pub last : ℕ
  pub are : bytes ≡ front ++ last ∷ []
  pub state : State
  pub lead : LeadTo front state
  pub stands : StandsFor core state

-- what is known of the bytes in each phase
abbrev pub IsInPhase : Phase → List ℕ → List ℕ → Core → Type 0
IsInPhase Start held bytes core = (bytes ≡ []) × StandsFor core opening
IsInPhase Header held bytes core = (bytes ≡ held) × IsBegun bytes
    × StandsFor core (opening_with (begun_limit bytes))
IsInPhase Gate held bytes core = EndsAs bytes core
IsInPhase Inside held bytes core =
    (front : List ℕ) × (bytes ≡ front ++ 1 ∷ held) × (length held < 128) × EndsAs front core
IsInPhase Shut held bytes core = IsShut bytes core
IsInPhase (Damaged index) held bytes core = AreDamagedAt index bytes × StandsBeforeLast bytes core
IsInPhase (Rotated generation) held bytes core = AreTurnedTo generation bytes
    × StandsBeforeLast bytes core

abbrev pub IsAt : List ℕ → Followed → Type 0
IsAt bytes f = IsInPhase f.phase f.held bytes f.core

-- so many bytes of a piece, and at least one
abbrev pub IsSomeOf : List ℕ → ℕ → Type 0
IsSomeOf piece n = (1 ≤ n) × (n ≤ length piece)

-- what was known of the bytes is known of them with these behind them
abbrev pub Adds : Followed → List ℕ → Followed → Type 0
Adds old more new = (bytes : List ℕ) → IsAt bytes old → IsAt (bytes ++ more) new

-- What was known of the bytes still is, and there is no memory for what this byte completes behind
-- them.
abbrev pub LacksMemory : Followed → ℕ → Followed → Type 0
LacksMemory old byte new =
    (bytes : List ℕ) → IsAt bytes old → IsAt bytes new × LackOne bytes × Completes byte bytes

-- how feeding has ended for good, if it has
abbrev pub stopped_in : Phase → Option FedEnd
stopped_in (Damaged index) = Some (end.Damaged index)
stopped_in (Rotated generation) = Some (end.Rotated generation)
stopped_in _ = None

-- These are the bytes that were taken. They are counted up to the most that a u64 holds.
unfoldable pub IsFed : List ℕ → Followed → Type 0
IsFed bytes f = IsAt bytes f × (f.taken ≡ min (length bytes) (2 ^ 64 - 1))
