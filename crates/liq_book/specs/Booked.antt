-- A book as contracts see it, and what holds of every book.
use Rattle.std.specs.Prelude.{ℕ, ◌≡◌, ◌≤◌, ◌⊎◌, List, length, Option, Some, None}
use Rattle.std.specs.Option.{option_map}
use Rattle.liq_outside.specs.At.{DiskAt}
use Rattle.liq_outside.specs.Disk.{LeftNow}
use Rattle.liq_types.specs.declared.requests.Request.{Request}
use Rattle.liq_types.specs.State.{State}
use Rattle.liq_core.specs.Core.{StandsFor}
use Rattle.liq_rule_step.specs.History.{IsLegal, requests_of, state_after}
use Rattle.liq_rule_step.specs.Memory.{IsAccepted}
use Rattle.liq_rule_step.specs.Step.{step}
use Rattle.liq_disk_pair.specs.Kept.{IsKept}
use Rattle.liq_store.specs.Causes.{Faults, OneRose}
use Rattle.liq_store.specs.Stored.{Stored}
use Rattle.liq_types.specs.declared.entries.Entry.{Entry}
use Rattle.liq_book.specs.declared.items.Halt.{Halt}
use Rattle.liq_book.specs.declared.items.TheConstants.{ENTRIES_MOST}
use Rattle.liq_book.specs.Moments.{KeepsBetween, tried}
use Rattle.liq_book.specs.Origin.{GoesOnFrom, faults_at}
use Rattle.liq_book.specs.Past.{KeepsPast}

-- the store that answers, all entries, and the halt, once there is one
pub record Booked (D : Type 0) : Type 0 where
  pub store : Stored D
  pub entries : List Entry
  pub halt : Option Halt

-- the state after all entries
abbrev pub state_of_book : {D : Type 0} → State → Booked D → State
state_of_book base book = state_after base book.entries

-- kept for the state before the request, or after it
abbrev pub IsKeptByStep : State → Request → List ℕ → List ℕ → Type 0
IsKeptByStep s request l r = IsKept l r s ⊎ IsKept l r (step s request).0

-- A count rose exactly where there is a halt, and else both are as they were.
abbrev pub CausesHalt : Option Halt → Faults → Faults → Type 0
CausesHalt None before after = after ≡ before
CausesHalt (Some halt) before after = OneRose before after

module _ {D : Type 0} (at : D → DiskAt) where
  -- What both disks read, where both tell it, is kept for the state. A halt's request is a command
  -- that the rules accept there; behind it what the disks read, and all that a crash may now leave
  -- of the one beside all of the other, is kept for the state or for the one after this command.
  abbrev pub KeepsDisks : Option Halt → State → Stored D → Type 0
  KeepsDisks None s store =
      (l r : List ℕ) → (at store.left).seen ≡ Some l → (at store.right).seen ≡ Some r
      → IsKept l r s
  KeepsDisks (Some halt) s store =
      IsAccepted s halt.request
      × ((l r : List ℕ) → (at store.left).seen ≡ Some l → (at store.right).seen ≡ Some r
      → IsKeptByStep s halt.request l r
      × ((a b : List ℕ) → LeftNow at store.left a → LeftNow at store.right b
      → IsKeptByStep s halt.request a b))

-- What holds of every book: the entries are a legal history from its base, and the store's protocol
-- is in the state after them. A halt is there exactly where the store is stopped, with the faults
-- that it then tells. What a crash may have left of its disks since the origin is of a run of the
-- entries' requests; and what it may have left within a call is kept for the state before that call
-- or after it.
pub record IsBook
    {D : Type 0} (at : D → DiskAt) (base : State) (left_origin right_origin : DiskAt)
    (book : Booked D) : Type 0 where
  pub few : length book.entries ≤ ENTRIES_MOST
  pub legal : IsLegal base book.entries
  pub state : StandsFor book.store.core (state_of_book base book)
  pub halt : book.store.stopped ≡ option_map (λ h. h.faults) book.halt
  pub keeps : KeepsDisks at book.halt (state_of_book base book) book.store
  pub cause :
      CausesHalt book.halt (faults_at left_origin right_origin)
      (record { left = (at book.store.left).faults; right = (at book.store.right).faults })
  pub left : GoesOnFrom left_origin (at book.store.left)
  pub right : GoesOnFrom right_origin (at book.store.right)
  pub past :
      KeepsPast at left_origin right_origin base (requests_of book.entries) book.halt book.store
  pub between :
      KeepsBetween at left_origin right_origin base (tried (requests_of book.entries) book.halt)
      book.store.left book.store.right
