-- What an opening finds, and what it leaves.
use Rattle.std.specs.Prelude.{◌≡◌, ◌≢◌, ◌⊎◌, ℕ, List, Some, None, IfSome, Result, Ok, Err, Bool, true, false}
use Rattle.liq_types.specs.declared.requests.Command.{Command}
use Rattle.liq_types.specs.State.{State}
use Rattle.liq_outside.specs.At.{DiskAt}
use Rattle.liq_core.specs.Core.{StandsFor}
use Rattle.liq_journal.specs.Crash.{IsClosed}
use Rattle.liq_journal.specs.Opened.{IsUnshut}
use Rattle.liq_journal.specs.Written.{Absent, Open, Written, found_on, start_of}
use Rattle.liq_disk_pair.specs.declared.side.Side.{Side}
use Rattle.liq_disk_pair.specs.Kept.{IsFirst, IsKept}
use Rattle.liq_disk_pair.specs.Pair.{commands_on, state_on}
use Rattle.liq_disk_pair.specs.Sides.{has_odd, other}
use Rattle.liq_disk_pair.specs.Unfinished.{IsRecovered}
use Rattle.liq_store.specs.declared.answers.StoreFault.{StoreFault}
use Rattle.liq_store.specs.declared.answers.StoreWhy.{StoreWhy}
use Rattle.liq_store.specs.declared.answers.StoreWhy.TheVariants as why
use Rattle.liq_store.specs.Causes.{CausesWhy, counts_of}
use Rattle.liq_store.specs.Standing.{OnlyShuts}
use Rattle.liq_store.specs.Stored.{Stored, taken_disk}

-- the disks after it, whatever it answers
abbrev pub left_after : {D : Type 0} → Result (Stored D) (StoreFault D) → D
left_after (Ok store) = store.left
left_after (Err fault) = fault.left

abbrev pub right_after : {D : Type 0} → Result (Stored D) (StoreFault D) → D
right_after (Ok store) = store.right
right_after (Err fault) = fault.right

-- A journal is open on the disk, whose records begin at this place, and has these commands.
pub record HoldsCommands (odd : Bool) (bytes : List ℕ) (start : ℕ)
    (commands : List Command) : Type 0 where
  pub written : Written
  pub found : found_on odd bytes ≡ Open written
  pub begins : start_of written ≡ start
  pub are : written.commands ≡ commands

-- The state for which the disks stand is the store's, and the disk that is taken holds the commands
-- that lead there. Nothing met a fault, and the store goes on. The disks stand for what they stood
-- for.
pub record OpensOn {D : Type 0} (at : D → DiskAt) (left right : D) (store : Stored D) : Type 0 where
  pub state :
      (l r : List ℕ) → (at left).seen ≡ Some l → (at right).seen ≡ Some r
      → (s : State) × (state_on l r ≡ Ok s) × StandsFor store.core s
  pub commands :
      (l r now : List ℕ) → (at left).seen ≡ Some l → (at right).seen ≡ Some r
      → (at (taken_disk store)).seen ≡ Some now
      → HoldsCommands (has_odd store.side) now store.start (commands_on l r)
  pub going : store.stopped ≡ None
  pub counts : counts_of at store.left store.right ≡ counts_of at left right
  pub stays :
      (l r a b : List ℕ)
      → (at left).seen ≡ Some l → (at right).seen ≡ Some r
      → (at store.left).seen ≡ Some a → (at store.right).seen ≡ Some b
      → state_on a b ≡ state_on l r

-- no disk met a fault
abbrev pub MeetsNone : {D : Type 0} → Result (Stored D) (StoreFault D) → Type 0
MeetsNone (Ok store) = Unit {0}
MeetsNone (Err fault) = fault.why ≢ why.DiskFault

-- What an opening that met no fault leaves of these disks: their bytes, or with a 0 at the one place
-- that it shuts; or, where neither was open, on the left one what the creation of the first
-- generation leaves.
abbrev pub OnlyOpens : List ℕ → List ℕ → List ℕ → List ℕ → Type 0
OnlyOpens l r a b =
    OnlyShuts false r b
    × (OnlyShuts true l a
    ⊎ ((found_on true l ≡ Absent) × (found_on false r ≡ Absent) × (IsClosed a ⊎ IsFirst true a)))

-- the disk beside this side has no other byte than 0 at place 0, if it has one, where no journal is
-- open on it
abbrev pub IsShutBeside : {D : Type 0} → (D → DiskAt) → Side → D → Type 0
IsShutBeside at side disk =
    IfSome (at disk).seen (λ now. found_on (has_odd (other side)) now ≡ Absent → IsUnshut now → ⊥)

-- why nothing was opened: a damage is the first of the pair
abbrev pub IsWhyOf : List ℕ → List ℕ → StoreWhy → Type 0
IsWhyOf left right why.DiskFault = Unit {0}
IsWhyOf left right (why.Damaged side damage) = state_on left right ≡ Err (side, damage)
IsWhyOf left right why.NoMemory = Unit {0}

-- Why no store was opened: a damage is the first of the disks, and a disk's fault has its count.
-- But for such a fault they stand for what they stood for, or are damaged as they were; after one
-- they are kept for what they were kept for, or for it after the command that they held unfinished.
pub record IsNotOpened {D : Type 0} (at : D → DiskAt)
    (left right : D) (fault : StoreFault D) : Type 0 where
  pub cause : CausesWhy fault.why (counts_of at left right) (counts_of at fault.left fault.right)
  pub is_why :
      (l r : List ℕ) → (at left).seen ≡ Some l → (at right).seen ≡ Some r
      → IsWhyOf l r fault.why
  pub stays :
      (fault.why ≢ why.DiskFault) → (l r a b : List ℕ)
      → (at left).seen ≡ Some l → (at right).seen ≡ Some r
      → (at fault.left).seen ≡ Some a → (at fault.right).seen ≡ Some b
      → state_on a b ≡ state_on l r
  pub reads :
      (l r a b : List ℕ) (s : State) → (at left).seen ≡ Some l → (at right).seen ≡ Some r
      → IsKept l r s → (at fault.left).seen ≡ Some a → (at fault.right).seen ≡ Some b
      → IsRecovered l r s a b
