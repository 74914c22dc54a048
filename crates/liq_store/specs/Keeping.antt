-- What the disks of a store keep.
use Rattle.std.specs.Prelude.{◌≡◌, ◌⊎◌, ℕ, List, Option, Some, None, IfSome}
use Rattle.liq_outside.specs.At.{DiskAt}
use Rattle.liq_outside.specs.Disk.{LeftNow, LeftSince, Only}
use Rattle.liq_types.specs.declared.requests.Command.{Command}
use Rattle.liq_types.specs.declared.requests.Request.{Request}
use Rattle.liq_types.specs.State.{State}
use Rattle.liq_core.specs.Core.{StandsFor}
use Rattle.liq_rule_step.specs.Step.{Allowed, after, newly_accepted, ruling, step}
use Rattle.liq_disk_pair.specs.Commands.{kept_behind}
use Rattle.liq_disk_pair.specs.Kept.{IsKept, IsKeptWith, IsSettledFor}
use Rattle.liq_store.specs.Stored.{Stored}

-- Kept for the state before the request, with the commands that were held by then; or for the one
-- after it, with its command behind those where it is accepted.
abbrev pub IsKeptAround : State → List Command → Request → List ℕ → List ℕ → Type 0
IsKeptAround s held request left right =
    IsKeptWith left right s held
    ⊎ IsKeptWith left right (step s request).0 (kept_behind held (newly_accepted s request))

-- kept for the state, or for it after one command that it accepts
abbrev pub IsKeptNear : State → List ℕ → List ℕ → Type 0
IsKeptNear s left right =
    IsKept left right s ⊎ ((c : Command) × (ruling s c ≡ Allowed) × IsKept left right (after s c))

-- All that a crash may have left of the one disk since it was `left`, beside all that one may have
-- left of the other since it was `right`, has P.
abbrev pub LeavesPairs : {D : Type 0} → (D → DiskAt) → D → D → D → D
    → (List ℕ → List ℕ → Type 0) → Type 0
LeavesPairs at left right now_left now_right P =
    (a b : List ℕ)
    → LeftSince at now_left (at left).moment a → LeftSince at now_right (at right).moment b
    → P a b

module _ {D : Type 0} (at : D → DiskAt) where
  -- where a disk tells its bytes, a crash now would leave just them
  abbrev pub IsAtRest : D → Type 0
  IsAtRest disk = IfSome (at disk).seen (λ held. Only held (LeftNow at disk))

  -- nothing is pending, and what both disks tell is settled for the protocol's state
  pub record IsGoing (store : Stored D) : Type 0 where
    pub left : IsAtRest store.left
    pub right : IsAtRest store.right
    pub settled :
        (l r : List ℕ) → (at store.left).seen ≡ Some l → (at store.right).seen ≡ Some r
        → (s : State) → StandsFor store.core s → IsSettledFor store.side l r s

  -- What both disks tell, and all that a crash now may leave of the one beside all of the other, is
  -- kept for the protocol's state or for it with one command more.
  pub record IsHalted (store : Stored D) : Type 0 where
    pub read :
        (l r : List ℕ) → (at store.left).seen ≡ Some l → (at store.right).seen ≡ Some r
        → (s : State) → StandsFor store.core s → IsKeptNear s l r
    pub left_so :
        (l r a b : List ℕ) → (at store.left).seen ≡ Some l → (at store.right).seen ≡ Some r
        → LeftNow at store.left a → LeftNow at store.right b
        → (s : State) → StandsFor store.core s → IsKeptNear s a b

  abbrev pub IsInOrderWith : Option ℕ → Stored D → Type 0
  IsInOrderWith None store = IsGoing store
  IsInOrderWith (Some sum) store = IsHalted store

  -- what holds of every store, by whether it is stopped
  abbrev pub IsInOrder : Stored D → Type 0
  IsInOrder store = IsInOrderWith store.stopped store
