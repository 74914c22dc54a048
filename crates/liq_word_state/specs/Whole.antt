-- The journal of a store, and all commands that lead to a state from the opening under its limit.
use Rattle.std.specs.Prelude.{ℕ, ◌≡◌, ◌<◌, ◌≤◌, List, Some, Result, Ok, Err}
use Rattle.liq_types.specs.declared.requests.Command.{Command}
use Rattle.liq_types.specs.State.{State, opening_with}
use Rattle.liq_rule_sound.specs.SoundState.{IsSoundState}
use Rattle.liq_core.specs.Core.{StandsFor}
use Rattle.liq_outside.specs.At.{DiskAt}
use Rattle.liq_outside.specs.Disk.{Looked}
use Rattle.liq_journal.specs.Written.{Open, Written, found_on}
use Rattle.liq_disk_pair.specs.Replay.{replay}
use Rattle.liq_disk_pair.specs.Sides.{has_odd}
use Rattle.liq_store.specs.Causes.{counts_of}
use Rattle.liq_store.specs.Stored.{Stored, taken_disk}
use Rattle.liq_word_exit.specs.Causes.{DiskCause}
use Rattle.liq_word_exit.specs.declared.halts.Halt.{Halt}
use Rattle.liq_word_exit.specs.declared.halts.Halt.TheVariants.{DiskFault, NoMemory, Rotated}
use Rattle.liq_word_state.specs.declared.journal.Whole.{Whole}
use Rattle.liq_word_state.specs.Leads.{LeadTo}
use Rattle.liq_word_state.specs.Told.{FindsNone}

-- Where the disk that a store took tells its journal, and the commands of a first generation lead
-- from the opening to the state for which the store stands, this holds of that state and of the
-- journal's commands.
abbrev pub OfJournal :
    {D : Type 0} → (D → DiskAt) → Stored D → (State → List Command → Type 0) → Type 0
OfJournal at store P =
    (held : List ℕ) (w : Written) (s : State) → (at (taken_disk store)).seen ≡ Some held
    → found_on (has_odd store.side) held ≡ Open w → StandsFor store.core s → 1 ≤ s.generation
    → (s.generation ≡ 1 → replay 1 (opening_with s.limit) w.commands ≡ Ok s) → P s w.commands

-- The disks of a store are only looked at, and one of their counts rose exactly where the answer is
-- a disk's fault.
pub record OnlyLooks
    {D T : Type 0} (at : D → DiskAt) (old new : Stored D) (result : Result T Halt) : Type 0 where
  pub left : Looked at old.left new.left
  pub right : Looked at old.right new.right
  pub count : DiskCause result (counts_of at old.left old.right) (counts_of at new.left new.right)

-- They are found of a state of the first generation, which has kept them; or a disk met a fault, or
-- there was no memory.
abbrev pub FindsWhole : State → List Command → Result Whole Halt → Type 0
FindsWhole s commands (Ok whole) =
    (whole.limit ≡ s.limit) × (whole.commands.items ≡ commands) × LeadTo commands s
FindsWhole s commands (Err (Rotated generation)) = (1 < s.generation) × (generation ≡ s.generation)
FindsWhole s commands (Err DiskFault) = Unit {0}
FindsWhole s commands (Err NoMemory) = Unit {0}
FindsWhole s commands (Err _) = ⊥

-- why all commands are not found: the journal is of a later generation than the first, that of some
-- sound state; or it came to no state
abbrev pub StopsWhole : Halt → Type 0
StopsWhole (Rotated generation) =
    (s : State) × IsSoundState s × (1 < s.generation) × (generation ≡ s.generation)
StopsWhole halt = FindsNone (Err halt)
