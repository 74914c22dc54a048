-- What two disks stand for.
use Rattle.std.specs.Prelude.{◌≡◌, ℕ, List, [], Option, Some, None, Result, Ok, Err, Bool, true, false}
use Rattle.std.specs.Prelude.{nat_lt, if◌then◌else◌}
use Rattle.liq_types.specs.declared.amounts.TheConstants.{LIM}
use Rattle.liq_types.specs.declared.requests.Command.{Command}
use Rattle.liq_types.specs.State.{State, opening}
use Rattle.liq_types.specs.WellFormed.{IsWellFormed}
use Rattle.liq_rule_step.specs.Image.{IsSameState}
use Rattle.liq_journal.specs.declared.damage.Damage.{Damage}
use Rattle.liq_journal.specs.Written.{Found, Absent, Damaged, Open, Written, found_on}
use Rattle.liq_disk_pair.specs.declared.side.Side.{Side}
use Rattle.liq_disk_pair.specs.declared.side.Side.TheVariants.{Left, Right}
use Rattle.liq_disk_pair.specs.Replay.{outcome}

-- What one disk is: it holds no journal, or a damaged one, or one of this generation that leads to
-- this state.
pub data Standing : Type 0 where
  Nothing : Standing
  Faulty : (damage : Damage) → Standing
  Holding : (generation : ℕ) (state : State) → Standing

abbrev pub standing_after : ℕ → Result State Damage → Standing
standing_after generation (Ok s) = Holding generation s
standing_after generation (Err damage) = Faulty damage

-- what the journal's own bytes show comes before what the replay finds
abbrev pub standing_of : Found → Standing
standing_of Absent = Nothing
standing_of (Damaged damage) = Faulty damage
standing_of (Open w) = standing_after w.generation (outcome w)

unfoldable pub standing : Bool → List ℕ → Standing
standing odd bytes = standing_of (found_on odd bytes)

-- All faults of the left disk come before those of the right one. Of two open disks the one of the
-- greater generation counts, and of none the opening state.
abbrev pub pair_state : Standing → Standing → Result State (Side × Damage)
pair_state (Faulty damage) right = Err (Left, damage)
pair_state Nothing (Faulty damage) = Err (Right, damage)
pair_state Nothing Nothing = Ok opening
pair_state Nothing (Holding generation s) = Ok s
pair_state (Holding generation s) (Faulty damage) = Err (Right, damage)
pair_state (Holding generation s) Nothing = Ok s
pair_state (Holding generation s) (Holding later t) = Ok (if nat_lt generation later then t else s)

-- the state for which two disks stand, or the first damage
unfoldable pub state_on : List ℕ → List ℕ → Result State (Side × Damage)
state_on left right = pair_state (standing true left) (standing false right)

-- The journal that counts: of two open ones that of the greater generation; none where neither disk
-- is open, or where the bytes of one are damaged.
abbrev pub pair_journal : Found → Found → Option Written
pair_journal (Damaged damage) right = None
pair_journal Absent (Damaged damage) = None
pair_journal Absent Absent = None
pair_journal Absent (Open w) = Some w
pair_journal (Open w) (Damaged damage) = None
pair_journal (Open w) Absent = Some w
pair_journal (Open w) (Open later) = Some (if nat_lt w.generation later.generation
    then later else w)

unfoldable pub journal_on : List ℕ → List ℕ → Option Written
journal_on left right = pair_journal (found_on true left) (found_on false right)

abbrev pub journal_commands : Option Written → List Command
journal_commands None = []
journal_commands (Some w) = w.commands

-- the limit of its version; where there is no journal, that of the one which is begun
abbrev pub journal_limit : Option Written → ℕ
journal_limit None = LIM
journal_limit (Some w) = w.limit

-- the commands that lead to the state for which two disks stand, from the one with which their
-- journal begins
unfoldable pub commands_on : List ℕ → List ℕ → List Command
commands_on left right = journal_commands (journal_on left right)

-- the limit under which those commands lead there
unfoldable pub limit_on : List ℕ → List ℕ → ℕ
limit_on left right = journal_limit (journal_on left right)

-- They stand for each state that is the same as theirs, in its image and its count of records, and
-- that the rules can reach.
pub record StandFor (left right : List ℕ) (s : State) : Type 0 where
  pub state : State
  pub is : state_on left right ≡ Ok state
  pub same : IsSameState state s
  pub formed : IsWellFormed s
