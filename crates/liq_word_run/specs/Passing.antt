-- What a crash at some moment may have left of the disks of a run that is on its way, and what its
-- sink was shown of them.
use Rattle.std.specs.Prelude.{ℕ, ◌≡◌, ◌≢◌, ◌≤◌, ◌+◌, List, [], ◌∷◌, ◌++◌, length, take, Option, Some, Result, Ok, Err}
use Rattle.liq_outside.specs.At.{DiskAt}
use Rattle.liq_outside.specs.declared.showing.Showing.{Showing}
use Rattle.liq_outside.specs.Disk.{LeftNow, Only}
use Rattle.liq_outside.specs.Showings.{AllNeighbours, LeavesBetween, shown_as}
use Rattle.liq_types.specs.declared.requests.Command.{Command}
use Rattle.liq_types.specs.declared.requests.Request.{Request}
use Rattle.liq_types.specs.declared.requests.Request.TheVariants.{Do}
use Rattle.liq_types.specs.State.{State}
use Rattle.liq_rule_step.specs.Step.{accepted, run}
use Rattle.liq_disk_pair.specs.Commands.{kept_behind}
use Rattle.liq_disk_pair.specs.Kept.{IsKept, IsKeptWith}
use Rattle.liq_disk_pair.specs.Pair.{commands_on}
use Rattle.liq_disk_pair.specs.Past.{AtCommand, Fault, KeptAtEnd, LeavesPast}
use Rattle.liq_disk_pair.specs.Sides.{on}
use Rattle.liq_disk_pair.specs.Unfinished.{IsRecovered}
use Rattle.liq_store.specs.declared.answers.StoreWhy.{StoreWhy}
use Rattle.liq_store.specs.declared.answers.StoreWhy.TheVariants as whys
use Rattle.liq_store.specs.Keeping.{IsInOrder, LeavesPairs}
use Rattle.liq_store.specs.Leaving.{RestAtEnd}
use Rattle.liq_store.specs.Opening.{OnlyOpens}
use Rattle.liq_store.specs.Past.{Past}
use Rattle.liq_store.specs.Stored.{Stored}
use Rattle.liq_word_exit.specs.declared.halts.Halt.{Halt}
use Rattle.liq_word_exit.specs.declared.halts.Halt.TheVariants.{DiskFault}
use Rattle.liq_word_exit.specs.Answered.{HoldsAnswered}
use Rattle.liq_word_exit.specs.Disks.{IsFaultOfTelling, LeavesOfRun}
use Rattle.liq_word_exit.specs.Output.{lines}
use Rattle.liq_word_exit.specs.Unopened.{halt_of}

-- What holds of the requests that were answered, by how the next one was; or, of one at which a
-- disk met a fault.
abbrev pub PassesBy :
    {T : Type 0} → (List Request → Type 0) → (List Request → Request → Type 0) → List Request
    → Request → Result T Halt → Type 0
PassesBy past stopped requests request (Ok reply) = past (requests ++ request ∷ [])
PassesBy past stopped requests request (Err DiskFault) = stopped requests request
PassesBy past stopped requests request (Err halt) = past requests

-- How a run began: with these disks, on which l and r stood, for this state; and what its sink
-- held, and was shown before these disks, where it tells that.
pub record Begun (D : Type 0) : Type 0 where
  pub left : D
  pub right : D
  pub l : List ℕ
  pub r : List ℕ
  pub start : State
  pub held : Option (List ℕ)
  pub shown : Option (List Showing)

-- where the sink tells all that, this holds of it, and of all that it was shown
abbrev pub Tells :
    {D : Type 0} → Begun D → Option (List Showing)
    → (List ℕ → List Showing → List Showing → Type 0) → Type 0
Tells begun shown P =
    (before : List ℕ) (earlier all : List Showing)
    → begun.held ≡ Some before → begun.shown ≡ Some earlier → shown ≡ Some all
    → P before earlier all

-- ---- the showings

-- the last of a list behind a first one
abbrev pub last_of : {A : Type 0} → A → List A → A
last_of first [] = first
last_of first (next ∷ later) = last_of next later

-- The disks are kept for the state after the first n of the requests, with the commands by then, and
-- no reply is out but those to them. So many bytes were out at the start, when these commands stood
-- on the disks.
abbrev pub HoldsFirst : List Command → State → ℕ → List Request → ℕ → List ℕ → List ℕ → Type 0
HoldsFirst begun start before requests held a b =
    (n : ℕ) × (n ≤ length requests) × (held ≤ before + length (lines start (take n requests)))
    × IsKeptWith a b (run start (take n requests)).0
    (kept_behind begun (accepted start (take n requests)))

module _ {D : Type 0} (at : D → DiskAt) where
  -- between two showings, the later of which was made by now
  pub record Covers
      (left right : D) (P : ℕ → List ℕ → List ℕ → Type 0) (p q : Showing) : Type 0 where
    pub between : LeavesBetween at left right P p q
    pub left_by : q.left ≤ (at left).moment
    pub right_by : q.right ≤ (at right).moment

  -- A run whose sink was shown this first answered these requests, and left the disks so. The sink
  -- was shown all this, and the last time both disks were as they are.
  pub record IsShown
      (begun : List Command) (start : State) (before : ℕ) (requests : List Request) (left right : D) (first : Showing)
      (earlier all : List Showing) : Type 0 where
    pub since : List Showing
    pub are : all ≡ earlier ++ first ∷ since
    pub each : AllNeighbours (Covers left right (HoldsFirst begun start before requests)) first since
    pub left_is : (last_of first since).left ≡ (at left).moment
    pub right_is : (last_of first since).right ≡ (at right).moment

  -- The same of one that met this fault, and is at its end: whatever its sink holds by then, the
  -- disks have what was answered.
  pub record WasShown
      (begun : List Command) (start : State) (before : ℕ) (requests : List Request) (fault : Fault) (left right : D)
      (first : Showing) (earlier all : List Showing) : Type 0 where
    pub since : List Showing
    pub are : all ≡ earlier ++ first ∷ since
    pub each :
        (now : List ℕ)
        → AllNeighbours (LeavesBetween at left right (HoldsAnswered begun start requests fault before))
        first (since ++ shown_as at now left right ∷ [])

-- ---- a run on its way

module _ {D : Type 0} (at : D → DiskAt) where
  module _ (begun : Begun D) where
    -- These requests were answered, and the store goes on.
    pub record IsPastOf
        (requests : List Request) (store : Stored D) (shown : Option (List Showing)) : Type 0 where
      pub past :
          Past at (λ side. (at (on side begun.left begun.right)).moment)
          begun.l begun.r begun.start requests store
      pub order : IsInOrder at store
      pub told : Tells begun shown (λ before earlier all.
          IsShown at (commands_on begun.l begun.r) begun.start (length before) requests store.left store.right
          (shown_as at before begun.left begun.right) earlier all)

    -- They were, it met this fault, and is at its end.
    pub record IsOver
        (requests : List Request) (fault : Fault) (left right : D) (shown : Option (List Showing))
        : Type 0 where
      pub kept : IsKept begun.l begun.r begun.start
      pub images :
          LeavesPast at (λ side. (at (on side begun.left begun.right)).moment)
          begun.l begun.r begun.start requests fault left right
      -- behind any bytes with the commands with which it began
      pub rests :
          (l r : List ℕ) → commands_on l r ≡ commands_on begun.l begun.r
          → RestAtEnd at l r begun.start requests fault left right
      pub ends :
          (l r a b : List ℕ) → commands_on l r ≡ commands_on begun.l begun.r
          → (at left).seen ≡ Some a → (at right).seen ≡ Some b
          → KeptAtEnd l r begun.start requests fault a b
      pub told : Tells begun shown (λ before earlier all.
          WasShown at (commands_on begun.l begun.r) begun.start (length before) requests fault left right
          (shown_as at before begun.left begun.right) earlier all)

    -- They were, and at this command a disk met a fault.
    abbrev pub IsStoppedPastOf : List Request → Request → Stored D → Option (List Showing) → Type 0
    IsStoppedPastOf requests request store shown =
        (c : Command) × (request ≡ Do c)
        × IsOver requests (AtCommand c) store.left store.right shown

    -- one request more was answered, or it was not
    abbrev pub Passes :
        {T : Type 0} → List Request → Request → Result T Halt → Stored D → Option (List Showing)
        → Type 0
    Passes requests request result store shown =
        PassesBy (λ rs. IsPastOf rs store shown) (λ rs q. IsStoppedPastOf rs q store shown)
        requests request result

  -- ---- its opening

  -- What a stop in it left is what an opening recovers, where nothing was pending before on either
  -- of these two disks, and they were kept for the state.
  abbrev pub Recovers : D → D → List ℕ → List ℕ → State → D → D → Type 0
  Recovers old_left old_right l r start left right =
      Only l (LeftNow at old_left) → Only r (LeftNow at old_right) → IsKept l r start
      → LeavesPairs at old_left old_right left right (IsRecovered l r start)

  -- A store was opened over these two disks, on which l and r stood, for this state. So a run
  -- begins over its disks as they are now, at rest, with the same commands; and, where they were kept before, and nothing
  -- was pending, it began there.
  pub record BeginsRun
      (old_left old_right : D) (l r : List ℕ) (start : State) (store : Stored D)
      (held : Option (List ℕ)) (was shown : Option (List Showing)) : Type 0 where
    pub left : List ℕ
    pub right : List ℕ
    pub left_is : (at store.left).seen ≡ Some left
    pub right_is : (at store.right).seen ≡ Some right
    pub holds : commands_on left right ≡ commands_on l r
    pub left_rests : Only left (LeftNow at store.left)
    pub right_rests : Only right (LeftNow at store.right)
    pub begun :
        IsPastOf
        (record {
          left = store.left;
          right = store.right;
          l = left;
          r = right;
          start = start;
          held = held;
          shown = was;
        })
        [] store shown
    pub past :
        Only l (LeftNow at old_left) → Only r (LeftNow at old_right) → IsKept l r start
        → Past at (λ side. (at (on side old_left old_right)).moment) l r start [] store
    pub left_time : (at old_left).moment ≤ (at store.left).moment
    pub right_time : (at old_right).moment ≤ (at store.right).moment
    pub recovers : Recovers old_left old_right l r start store.left store.right

  -- None was opened, for this reason, and this is what is left of the disks.
  pub record BeginsNone
      (old_left old_right : D) (l r : List ℕ) (start : State) (why : StoreWhy) (left right : D)
      : Type 0 where
    pub left_time : (at old_left).moment ≤ (at left).moment
    pub right_time : (at old_right).moment ≤ (at right).moment
    pub past :
        LeavesOfRun at old_left old_right (IsFaultOfTelling (Err (halt_of why))) l r start []
        left right
    -- where no disk met a fault
    pub opens :
        why ≢ whys.DiskFault → (a b : List ℕ) → (at left).seen ≡ Some a → (at right).seen ≡ Some b
        → OnlyOpens l r a b
    pub recovers : Recovers old_left old_right l r start left right
