-- Moments between the calls of a book, and what a crash from one to the next may have left of its
-- disks.
use Rattle.std.specs.Prelude.{ℕ, ◌≡◌, ◌≤◌, ◌++◌, List, [], ◌∷◌, Option, Some, None}
use Rattle.liq_types.specs.declared.requests.Command.{Command}
use Rattle.liq_types.specs.declared.requests.Request.{Request}
use Rattle.liq_types.specs.State.{State}
use Rattle.liq_outside.specs.At.{DiskAt}
use Rattle.liq_outside.specs.Disk.{LeftBetween, LeftNow, Only}
use Rattle.liq_rule_step.specs.Step.{newly_accepted, step}
use Rattle.liq_disk_pair.specs.Commands.{kept_behind}
use Rattle.liq_disk_pair.specs.Kept.{IsKept}
use Rattle.liq_disk_pair.specs.Pair.{commands_on}
use Rattle.liq_disk_pair.specs.Unfinished.{IsRecovered}
use Rattle.liq_store.specs.Keeping.{IsKeptAround}
use Rattle.liq_book.specs.declared.items.Halt.{Halt}

-- the requests that were answered, and behind them the one whose call met a fault
abbrev pub tried : List Request → Option Halt → List Request
tried requests None = requests
tried requests (Some halt) = requests ++ halt.request ∷ []

module _ {D : Type 0} (at : D → DiskAt) (left right : D) where
  -- From these moments of both disks to those none goes back in time. All that a crash between them
  -- may have left of the one, beside all of the other, has P.
  pub record LeavesWithin (P : List ℕ → List ℕ → Type 0) (p q : ℕ × ℕ) : Type 0 where
    pub left_time : p.0 ≤ q.0
    pub right_time : p.1 ≤ q.1
    pub leaves :
        (a b : List ℕ) → LeftBetween at left p.0 q.0 a → LeftBetween at right p.1 q.1 b → P a b

  -- The moments before the first of these requests, behind each, and behind the last, which is now.
  -- They were answered from this state on, with these commands on the disks. What is left from one
  -- to the next is kept for the state before the request between them, or for the one after it.
  abbrev pub AreKeptAlong : State → List Command → List Request → ℕ × ℕ → List (ℕ × ℕ) → Type 0
  AreKeptAlong s held [] first [] = first ≡ ((at left).moment, (at right).moment)
  AreKeptAlong s held (request ∷ requests) first (next ∷ later) =
      LeavesWithin (IsKeptAround s held request) first next
      × AreKeptAlong (step s request).0 (kept_behind held (newly_accepted s request)) requests next
      later
  AreKeptAlong s held _ first _ = ⊥

-- There are such moments from the origin on, where both disks told their bytes there.
abbrev pub KeepsBetween : {D : Type 0}
    → (D → DiskAt) → (left_origin right_origin : DiskAt) → State → List Request → D → D → Type 0
KeepsBetween at left_origin right_origin base requests left right =
    (l r : List ℕ) → left_origin.seen ≡ Some l → right_origin.seen ≡ Some r
    → (later : List (ℕ × ℕ)) × AreKeptAlong at left right base (commands_on l r) requests
    (left_origin.moment, right_origin.moment) later

-- Two disks, on which l and r stood for the state `start`, were opened, and these requests were
-- answered over them: the moments between, which are one more than the requests.
pub record HasMoments
    {D : Type 0} (at : D → DiskAt) (old_left old_right : D) (l r : List ℕ) (start : State)
    (requests : List Request) (left right : D) : Type 0 where
  -- behind the opening
  pub opened : ℕ × ℕ
  -- behind each request
  pub later : List (ℕ × ℕ)
  -- Up to the first a stop leaves what an opening recovers, of disks that were kept, and on which
  -- nothing was pending.
  pub opening :
      Only l (LeftNow at old_left) → Only r (LeftNow at old_right) → IsKept l r start
      → LeavesWithin at left right (IsRecovered l r start)
      ((at old_left).moment, (at old_right).moment) opened
  -- From there on the disks have what was answered: whatever they were before.
  pub each : AreKeptAlong at left right start (commands_on l r) requests opened later
