-- What two disks are kept for: they stand for it, and a stop in the midst of what is written next
-- is told from it.
use Rattle.std.specs.Prelude.{◌≡◌, ◌⊎◌, ℕ, ◌+◌, ◌<◌, List, [], get_or, Ok, Bool, true, false}
use Rattle.liq_types.specs.declared.amounts.TheConstants.{LIM}
use Rattle.liq_types.specs.declared.requests.Call.TheVariants.{Rotate}
use Rattle.liq_types.specs.declared.requests.Command.{Command}
use Rattle.liq_types.specs.State.{State}
use Rattle.liq_rule_step.specs.Image.{image, IsSameState}
use Rattle.liq_rule_step.specs.Step.{Allowed, after, ruling}
use Rattle.liq_checkpoint.specs.Spelling.{spelling}
use Rattle.liq_journal.specs.Crash.{IsClosed, IsPending, Stands}
use Rattle.liq_journal.specs.Written.{Written, Absent, Open, EndsWith, found_on, opened}
use Rattle.liq_disk_pair.specs.declared.side.Side.{Side}
use Rattle.liq_disk_pair.specs.Pair.{StandFor, commands_on}
use Rattle.liq_disk_pair.specs.Replay.{outcome}
use Rattle.liq_disk_pair.specs.Sides.{beside, has_odd, on, other}

-- behind the end byte one further record stands whole, which the state accepts, and then a 0
pub record HoldsRecord (odd : Bool) (bytes : List ℕ) (w : Written) (s : State) (c : Command) :
    Type 0 where
  pub pending : IsPending odd bytes w c
  pub allowed : ruling s c ≡ Allowed

-- This is the journal of the state after a rotation, which it accepts: of the next generation, and
-- with that state's image as its checkpoint, from which it leads there. Whatever the limit was, its
-- own is the greater one.
pub record IsRotationOf (s : State) (w : Written) (c : Command) : Type 0 where
  pub rotates : c.call ≡ Rotate
  pub allowed : ruling s c ≡ Allowed
  pub generation_is : w.generation ≡ s.generation + 1
  pub limit_is : w.limit ≡ LIM
  pub checkpoint_is : w.checkpoint ≡ spelling (image (after s c))
  pub state : State
  pub came : outcome w ≡ Ok state
  pub same : IsSameState state (after s c)

-- The gate at place 0 isn't open. With an open one it is the journal after this rotation, without
-- records and with a 0 where the first one's gate is.
pub record HoldsRotation (odd : Bool) (bytes : List ℕ) (s : State) (c : Command) : Type 0 where
  pub written : Written
  pub stands : Stands odd (opened 0 bytes) written
  pub none : written.commands ≡ []
  pub rotation : IsRotationOf s written c
  pub shut : get_or bytes 0 0 ≡ 1 → ⊥

-- With an open gate at place 0 it is an undamaged journal of a smaller generation, with a 0 behind
-- its last record. It is of either version.
pub record IsOlder (odd : Bool) (bytes : List ℕ) (generation : ℕ) : Type 0 where
  pub written : Written
  pub stands : Stands odd (opened 0 bytes) written
  pub smaller : written.generation < generation
  pub state : State
  pub replays : outcome written ≡ Ok state

-- With an open gate at place 0 it is the first generation without records, with a 0 where the first
-- one's gate is. It has the limit of the opening state, so that once its gate is open it leads to
-- what it led to before. A creation leaves no other.
pub record IsFirst (odd : Bool) (bytes : List ℕ) : Type 0 where
  pub written : Written
  pub stands : Stands odd (opened 0 bytes) written
  pub first : written.generation ≡ 1
  pub limit_is : written.limit ≡ LIM
  pub none : written.commands ≡ []

-- Behind the last record of the journal on the disk of this side is a 0, and beside it stands the
-- state's rotation, which is of a greater generation.
pub record StandsBesideRotation (side : Side) (left right : List ℕ) (w : Written) (s : State) :
    Type 0 where
  pub ended : EndsWith 0 (on side left right) w
  pub command : Command
  pub holds : HoldsRotation (has_odd (other side)) (beside side left right) s command
  pub later : w.generation < holds.written.generation

-- The disk of this side is open. Behind its last record is a 0, or one more record that the state
-- accepts; beside it is a closed disk, or an older one, or, where the 0 is there, the state's
-- rotation.
pub record IsKeptOn (side : Side) (left right : List ℕ) (s : State) : Type 0 where
  pub written : Written
  pub found : found_on (has_odd side) (on side left right) ≡ Open written
  pub end :
      EndsWith 0 (on side left right) written
      ⊎ ((c : Command) × HoldsRecord (has_odd side) (on side left right) written s c)
  pub others :
      IsClosed (beside side left right)
      ⊎ (IsOlder (has_odd (other side)) (beside side left right) written.generation
      ⊎ StandsBesideRotation side left right written s)

-- no journal was begun, or one that is still closed
abbrev pub IsUnbegun : Bool → List ℕ → Type 0
IsUnbegun odd bytes = (found_on odd bytes ≡ Absent) × (IsClosed bytes ⊎ IsFirst odd bytes)

pub record IsKept (left right : List ℕ) (s : State) : Type 0 where
  pub stands : StandFor left right s
  pub rests : ((side : Side) × IsKeptOn side left right s) ⊎ (IsUnbegun true left
      × IsUnbegun false right)

-- They are kept for the state, and the journal that counts has these commands.
pub record IsKeptWith (left right : List ℕ) (s : State) (held : List Command) : Type 0 where
  pub kept : IsKept left right s
  pub commands : commands_on left right ≡ held

-- Settled: they stand for the state, the disk of this side is open with a 0 behind its last record,
-- and the other is closed, or older. So it is after an opening and after each call that met no
-- fault.
pub record IsSettledFor (side : Side) (left right : List ℕ) (s : State) : Type 0 where
  pub stands : StandFor left right s
  pub written : Written
  pub open_on : Stands (has_odd side) (on side left right) written
  pub others :
      IsClosed (beside side left right)
      ⊎ IsOlder (has_odd (other side)) (beside side left right) written.generation
