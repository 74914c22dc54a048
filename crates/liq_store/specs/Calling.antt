-- What a call does to the disks of a store.
use Rattle.std.specs.Prelude.{◌≡◌, ◌↔◌, ℕ, List, Some, None, IsSome, true, false}
use Rattle.liq_outside.specs.At.{DiskAt}
use Rattle.liq_outside.specs.Disk.{GoesOn, IsLater, LeavesOnly}
use Rattle.liq_types.specs.declared.requests.Command.{Command}
use Rattle.liq_types.specs.declared.requests.Request.{Request}
use Rattle.liq_types.specs.declared.requests.Request.TheVariants.{Do}
use Rattle.liq_types.specs.declared.replies.Answer.{Answer}
use Rattle.liq_types.specs.declared.replies.Answer.TheVariants.{NoMemory, Reply}
use Rattle.liq_types.specs.State.{State}
use Rattle.liq_core.specs.Core.{StandsFor}
use Rattle.liq_journal.specs.Crash.{BeforeOrAfter, CreateLeaves}
use Rattle.liq_journal.specs.Written.{Open, Written, found_on}
use Rattle.liq_disk_pair.specs.Commands.{read_back}
use Rattle.liq_disk_pair.specs.Pair.{commands_on}
use Rattle.liq_disk_pair.specs.Sides.{beside, has_odd, on, other}
use Rattle.liq_store.specs.Keeping.{IsKeptAround, LeavesPairs}
use Rattle.liq_rule_step.specs.Memory.{IsAccepted}
use Rattle.liq_store.specs.Rotating.{is_rotation, rotation_of, side_after, start_after}
use Rattle.liq_store.specs.Stored.{Stored, disk_beside, taken_disk}

-- An accepted command that is answered, and is no rotation, makes the device calls of one record,
-- on the disk that is taken.
abbrev pub AppendsOnce : {D : Type 0} → (D → DiskAt) → Stored D → Request → Answer → Stored D
    → Type 0
AppendsOnce at old request (Reply reply) new =
    (s : State) → StandsFor old.core s → IsAccepted s request → is_rotation s request ≡ false
    → IsLater at 4 (taken_disk old) (taken_disk new)
AppendsOnce at old request _ new = Unit {0}

-- Only an accepted command is written: a rotation on the disk that was beside, which is taken after
-- the reply, and any other on the one that was taken.
pub record WritesOn {D : Type 0} (at : D → DiskAt) (old : Stored D) (request : Request)
    (answer : Answer) (new : Stored D) : Type 0 where
  pub side : (s : State) → StandsFor old.core s → new.side ≡ side_after answer s request old.side
  pub start :
      (s : State) → StandsFor old.core s
      → new.start ≡ start_after answer s request old.start
  pub taken :
      (s : State) → StandsFor old.core s → is_rotation s request ≡ true
      → on old.side new.left new.right ≡ taken_disk old
  pub aside :
      (s : State) → StandsFor old.core s → is_rotation s request ≡ false
      → beside old.side new.left new.right ≡ disk_beside old
  pub unwritten :
      (s : State) → StandsFor old.core s → (IsAccepted s request → ⊥)
      → (new.left ≡ old.left) × (new.right ≡ old.right)
  pub no_memory : answer ≡ NoMemory → (new.left ≡ old.left) × (new.right ≡ old.right)
  -- what a stop in it may leave of the disk that was taken
  pub written :
      old.stopped ≡ None → (held : List ℕ) (w : Written) (c : Command)
      → (at (taken_disk old)).seen ≡ Some held
      → found_on (has_odd old.side) held ≡ Open w → request ≡ Do c
      → LeavesOnly at (taken_disk old) (on old.side new.left new.right)
      (BeforeOrAfter (has_odd old.side) w (read_back c))
  -- what a stop leaves of the other disk
  pub created :
      old.stopped ≡ None → (s : State) → StandsFor old.core s → (held : List ℕ) (c : Command)
      → (at (disk_beside old)).seen ≡ Some held → request ≡ Do c → is_rotation s request ≡ true
      → LeavesOnly at (disk_beside old) (beside old.side new.left new.right)
      (CreateLeaves (has_odd (other old.side)) held (rotation_of s c))
  -- what a stop leaves of both: they are kept for the state before the call or after it, and the
  -- commands that lead there stand on them
  pub kept :
      old.stopped ≡ None → (l r : List ℕ) (s : State)
      → (at old.left).seen ≡ Some l → (at old.right).seen ≡ Some r → StandsFor old.core s
      → LeavesPairs at old.left old.right new.left new.right (IsKeptAround s (commands_on l r) request)
  pub left_telling : IsSome (at new.left).seen ↔ IsSome (at old.left).seen
  pub right_telling : IsSome (at new.right).seen ↔ IsSome (at old.right).seen
  pub left_time : GoesOn at old.left new.left
  pub right_time : GoesOn at old.right new.right
