-- What a run leaves of its disks: each image that one of them may have had since then, and both at
-- the end. It began with l and r on them, which were kept for the state `start`, and answered these
-- requests.
use Rattle.std.specs.Prelude.{◌≡◌, ◌⊎◌, ℕ, ◌<◌, ◌≤◌, List, [], ◌∷◌, ◌++◌, take, fold, count_by}
use Rattle.liq_types.specs.declared.requests.Command.{Command}
use Rattle.liq_types.specs.declared.requests.Request.{Request}
use Rattle.liq_types.specs.State.{State}
use Rattle.liq_rule_step.specs.Step.{Allowed, accepted, after, ruling, run}
use Rattle.liq_outside.specs.At.{DiskAt}
use Rattle.liq_outside.specs.Disk.{LeftSince}
use Rattle.liq_journal.specs.Crash.{SettleLeaves}
use Rattle.liq_types.specs.Verbs.{is_rotate}
use Rattle.liq_journal.specs.Written.{Absent, Open, Written, found_on}
use Rattle.liq_disk_pair.specs.declared.side.Side.{Side}
use Rattle.liq_disk_pair.specs.Commands.{kept_behind}
use Rattle.liq_disk_pair.specs.Kept.{IsKeptWith}
use Rattle.liq_disk_pair.specs.Pair.{StandFor, commands_on}
use Rattle.liq_disk_pair.specs.Sides.{beside, has_odd, on, other}
use Rattle.liq_disk_pair.specs.Unfinished.{HoldsUnfinished, IsRecovered}

-- Where a disk met a fault, with which a run ends: nowhere, in the opening, or at this command
-- behind the requests.
pub data Fault : Type 0 where
  NoFault : Fault
  InOpening : Fault
  AtCommand : (command : Command) → Fault

abbrev pub failed_commands : Fault → List Command
failed_commands NoFault = []
failed_commands InOpening = []
failed_commands (AtCommand c) = c ∷ []

-- ---- one image of one disk

-- an image of one disk that beside an empty one stands for the state
abbrev pub StandsAlone : Side → List ℕ → State → Type 0
StandsAlone side image s = StandFor (on side image []) (on side [] image) s

-- the image is what the disk was, or that with some byte at place 0, where no shut gate was
abbrev pub IsAsItStood : List ℕ → List ℕ → Type 0
IsAsItStood held image = SettleLeaves 0 held image

-- It stands for the state after the first so many accepted commands.
abbrev pub IsOfPrefix : Side → State → List Request → List ℕ → Type 0
IsOfPrefix side start requests image =
    (n : ℕ) × StandsAlone side image (fold after start (take n (accepted start requests)))

-- the image stands for the state after the command that l and r held unfinished
abbrev pub IsOfUnfinished : Side → List ℕ → List ℕ → State → List ℕ → Type 0
IsOfUnfinished side l r start image =
    (c : Command) × HoldsUnfinished l r start c × StandsAlone side image (after start c)

-- the image stands for the state after the command at which a disk met a fault
abbrev pub IsOfFailed : Side → State → Fault → List ℕ → Type 0
IsOfFailed side s (AtCommand c) image = (ruling s c ≡ Allowed) × StandsAlone side image (after s c)
IsOfFailed side s _ image = ⊥

-- An image that the disk of this side may have had: no journal is open on it, or it is as it stood
-- at the start, or it stands for a state of the run.
abbrev pub IsOfRun : Side → List ℕ → List ℕ → State → List Request → Fault → List ℕ → Type 0
IsOfRun side l r start requests fault image =
    (found_on (has_odd side) image ≡ Absent)
    ⊎ (IsAsItStood (on side l r) image
    ⊎ (IsOfPrefix side start requests image
    ⊎ (IsOfUnfinished side l r start image
    ⊎ IsOfFailed side (run start requests).0 fault image)))

-- ---- all of them

-- At the start the disk of this side was open, and the other one was not, or was of a smaller
-- generation.
pub record IsTakenFirst (side : Side) (l r : List ℕ) : Type 0 where
  pub written : Written
  pub found : found_on (has_odd side) (on side l r) ≡ Open written
  pub later :
      (v : Written) → found_on (has_odd (other side)) (beside side l r) ≡ Open v
      → v.generation < written.generation

-- how many rotations were accepted, or met a fault
abbrev pub rotations : State → List Request → Fault → ℕ
rotations start requests fault =
    count_by (λ (c : Command). is_rotate c.call) (accepted start requests ++ failed_commands fault)

-- All that a crash at some moment since these may have left of either disk. The disk that was taken
-- first is absent in none of it, unless there were two rotations.
pub record LeavesPast
    {D : Type 0} (at : D → DiskAt) (since : Side → ℕ)
    (l r : List ℕ) (start : State) (requests : List Request) (fault : Fault)
    (left right : D) : Type 0 where
  pub images :
      (side : Side) (image : List ℕ) → LeftSince at (on side left right) (since side) image
      → IsOfRun side l r start requests fault image
  pub whole :
      (side : Side) → IsTakenFirst side l r → rotations start requests fault ≤ 1
      → (image : List ℕ) → LeftSince at (on side left right) (since side) image
      → found_on (has_odd side) image ≡ Absent → ⊥

-- ---- both at the end

-- the commands that were accepted stand behind those that stood on l and r
abbrev pub held_at_end : List ℕ → List ℕ → State → List Request → List Command
held_at_end l r start requests = kept_behind (commands_on l r) (accepted start requests)

-- Kept for the state after the requests, with their commands; after a fault in the opening for what
-- an opening leaves; after one at a command for the state before it, or after it where it is
-- accepted, with this command more.
abbrev pub KeptAtEnd : List ℕ → List ℕ → State → List Request → Fault → List ℕ → List ℕ → Type 0
KeptAtEnd l r start requests NoFault a b =
    IsKeptWith a b (run start requests).0 (held_at_end l r start requests)
KeptAtEnd l r start requests InOpening a b = (requests ≡ []) × IsRecovered l r start a b
KeptAtEnd l r start requests (AtCommand c) a b =
    let s = (run start requests).0 in
    let held = held_at_end l r start requests in
    IsKeptWith a b s held
    ⊎ ((ruling s c ≡ Allowed) × IsKeptWith a b (after s c) (kept_behind held (c ∷ [])))
