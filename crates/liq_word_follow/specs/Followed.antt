-- Where the word `follow` ends, and what it tells.
use Rattle.std.specs.Prelude.{ℕ, ◌≡◌, ◌⊎◌, ◌≤◌, ◌+◌, List, [], ◌∷◌, ◌++◌, length, take, Option, Ok, Err}
use Rattle.liq_types.specs.State.{State}
use Rattle.liq_text_lines.specs.Reading.{IsOver}
use Rattle.liq_follower.specs.Fed.{AreDamagedAt, AreTurnedTo, Completes, GoOn, LeadTo}
use Rattle.liq_word_exit.specs.declared.halts.Halt.{Halt}
use Rattle.liq_word_exit.specs.declared.halts.Halt.TheVariants.{DamagedInput, Limit, NoMemory}
use Rattle.liq_word_exit.specs.declared.halts.Halt.TheVariants.{ReadFault, Rotated, WriteFault}
use Rattle.liq_word_state.specs.State.{standing}
use Rattle.liq_word_follow.specs.declared.feeding.TheConstants.{FED_MOST}
use Rattle.liq_word_exit.specs.Statuses.{End}

-- The input was read to its end. Its bytes are no more than are followed, and lead to a state of
-- which this is told.
pub record IsWhole (read : List ℕ) (left : Option (List ℕ)) (text : List ℕ) : Type 0 where
  pub few : length read ≤ FED_MOST
  pub over : IsOver left
  pub state : State
  pub leads : LeadTo read state
  pub told : text ≡ standing state

-- with the first fault that some bytes show, what stands up to there is so: they show none before
-- its last byte
abbrev pub FaultIn : List ℕ → (List ℕ → Type 0) → Type 0
FaultIn bytes P = (front rest : List ℕ) × (bytes ≡ front ++ rest) × (((before : List ℕ) × (byte : ℕ)
    × (front ≡ before ++ byte ∷ []) × GoOn before) × P front)

-- a byte completes a record of right digest and form, and no fault stands before it
abbrev pub FindsNoMemory : List ℕ → Type 0
FindsNoMemory bytes = (front rest : List ℕ) × (byte : ℕ) × (bytes ≡ front ++ byte ∷ rest)
    × GoOn front × Completes byte front

-- why feeding stopped within the bytes that were read
abbrev pub StopsWithin : Halt → List ℕ → Type 0
-- no fault stands in what the source gave
StopsWithin ReadFault read = GoOn read
-- nor in what was read; or there was no memory for a record's step
StopsWithin NoMemory read = GoOn read ⊎ FindsNoMemory read
StopsWithin (DamagedInput index) read = FaultIn read (AreDamagedAt index)
StopsWithin (Rotated generation) read = FaultIn read (AreTurnedTo generation)
StopsWithin _ read = ⊥

-- Where following ends. `read` is what was read of the input, `left` what the source still tells,
-- `text` what is told.
abbrev pub FollowsTo : End → List ℕ → Option (List ℕ) → List ℕ → Type 0
FollowsTo (Ok done) read left text = IsWhole read left text
FollowsTo (Err WriteFault) read left text = IsWhole read left text
-- one byte more than are followed was read, and those show no fault
FollowsTo (Err (Limit number)) read left text =
    (number ≡ FED_MOST) × (length read ≡ FED_MOST + 1) × GoOn (take FED_MOST read)
FollowsTo (Err halt) read left text = (length read ≤ FED_MOST) × StopsWithin halt read
