-- What an opening finds of two disks that a stop left, and what a stop leaves of the opening: a
-- command may be unfinished, that is whole behind a byte that is neither shut nor open.
use Rattle.std.specs.Prelude.{◌≡◌, ◌⊎◌, ℕ, List, [], ◌∷◌, Bool, true, false}
use Rattle.liq_types.specs.declared.requests.Command.{Command}
use Rattle.liq_types.specs.State.{State}
use Rattle.liq_rule_step.specs.Step.{after}
use Rattle.liq_journal.specs.Crash.{CreateLeaves, HasGate, beginning}
use Rattle.liq_journal.specs.Opened.{IsUnshut, OpenLeaves}
use Rattle.liq_journal.specs.Written.{Absent, Written, end_of, found_on}
use Rattle.liq_disk_pair.specs.declared.side.Side.{Side}
use Rattle.liq_disk_pair.specs.Commands.{kept_behind}
use Rattle.liq_disk_pair.specs.Kept.{HoldsRecord, HoldsRotation, IsKeptWith}
use Rattle.liq_disk_pair.specs.Pair.{commands_on}
use Rattle.liq_disk_pair.specs.Sides.{has_odd, on}

-- a record of it, and the byte behind the last whole one isn't 0
pub record IsUnfinishedRecord (odd : Bool) (bytes : List ℕ) (s : State) (c : Command) : Type 0 where
  pub written : Written
  pub record_is : HoldsRecord odd bytes written s c
  pub unshut : HasGate (end_of written) bytes → ⊥

-- a rotation, and place 0 isn't 0
pub record IsUnfinishedRotation (odd : Bool) (bytes : List ℕ) (s : State) (c : Command) :
    Type 0 where
  pub rotation : HoldsRotation odd bytes s c
  pub unshut : IsUnshut bytes

abbrev pub HoldsUnfinished : List ℕ → List ℕ → State → Command → Type 0
HoldsUnfinished left right s c =
    (side : Side)
    × (IsUnfinishedRecord (has_odd side) (on side left right) s c
    ⊎ IsUnfinishedRotation (has_odd side) (on side left right) s c)

-- Two disks that an opening may leave, of two others that were kept for the state: kept for it, with
-- the same commands, or for it after the command that those held unfinished, with this one more.
abbrev pub IsRecovered : List ℕ → List ℕ → State → List ℕ → List ℕ → Type 0
IsRecovered left right s a b =
    let held = commands_on left right in
    IsKeptWith a b s held
    ⊎ ((c : Command) × HoldsUnfinished left right s c
    × IsKeptWith a b (after s c) (kept_behind held (c ∷ [])))

-- What a stop in an opening leaves of the left disk: what the opening of its journal leaves; or,
-- where neither disk has one, what the creation of the first generation leaves. Of the right disk
-- it leaves what the opening of its journal leaves.
abbrev pub LeftLeaves : List ℕ → List ℕ → List ℕ → Type 0
LeftLeaves left right image =
    OpenLeaves true left image
    ⊎ ((found_on true left ≡ Absent)
    × (found_on false right ≡ Absent)
    × CreateLeaves true left (beginning 1 []) image)
