-- What a crash may have left of a book's disks since its origin.
use Rattle.std.specs.Prelude.{ℕ, ◌≡◌, List, Option, Some, None}
use Rattle.liq_types.specs.declared.requests.Command.{Command}
use Rattle.liq_types.specs.declared.requests.Request.{Request}
use Rattle.liq_types.specs.declared.requests.Request.TheVariants.{Do}
use Rattle.liq_types.specs.State.{State}
use Rattle.liq_outside.specs.At.{DiskAt}
use Rattle.liq_disk_pair.specs.declared.side.Side.{Side}
use Rattle.liq_disk_pair.specs.Past.{AtCommand, Fault, KeptAtEnd, LeavesPast, NoFault}
use Rattle.liq_disk_pair.specs.Sides.{on}
use Rattle.liq_store.specs.Leaving.{RestAtEnd}
use Rattle.liq_store.specs.Past.{Past}
use Rattle.liq_store.specs.Stored.{Stored}
use Rattle.liq_book.specs.declared.items.Halt.{Halt}

-- the fault of a book with this halt: none, or the one at the command that the halt's call was to
-- write
abbrev pub IsFaultOf : Option Halt → Fault → Type 0
IsFaultOf None fault = fault ≡ NoFault
IsFaultOf (Some halt) fault = (c : Command) × (halt.request ≡ Do c) × (fault ≡ AtCommand c)

-- the moments of both disks at the origin
abbrev pub since_origin : DiskAt → DiskAt → Side → ℕ
since_origin left right side = on side left.moment right.moment

-- Where both disks told their bytes at the origin, all that a crash since then may have left of
-- either is of a run that began with these, answered these requests from the base on, and ended
-- with the halt's fault; and so they rest now. What both tell now is kept for the state then, with
-- the commands that were accepted behind those of the origin.
abbrev pub LeavesFrom : {D : Type 0}
    → (D → DiskAt) → (left_origin right_origin : DiskAt)
    → State → List Request → Option Halt → (left right : D) → Type 0
LeavesFrom at left_origin right_origin base requests halt left right =
    (l r : List ℕ) → left_origin.seen ≡ Some l → right_origin.seen ≡ Some r
    → (fault : Fault) × IsFaultOf halt fault
    × LeavesPast at (since_origin left_origin right_origin) l r base requests fault left right
    × RestAtEnd at l r base requests fault left right
    × ((a b : List ℕ) → (at left).seen ≡ Some a → (at right).seen ≡ Some b
    → KeptAtEnd l r base requests fault a b)

-- so it is behind a halt, and before it so that the run can go on
abbrev pub KeepsPast : {D : Type 0}
    → (D → DiskAt) → (left_origin right_origin : DiskAt)
    → State → List Request → Option Halt → Stored D → Type 0
KeepsPast at left_origin right_origin base requests None store =
    (l r : List ℕ) → left_origin.seen ≡ Some l → right_origin.seen ≡ Some r
    → Past at (since_origin left_origin right_origin) l r base requests store
KeepsPast at left_origin right_origin base requests (Some halt) store =
    LeavesFrom at left_origin right_origin base requests (Some halt) store.left store.right
