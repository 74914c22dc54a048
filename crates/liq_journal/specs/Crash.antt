-- What a crash may leave of a journal.
use Rattle.std.specs.Prelude.{◌≡◌, ◌⊎◌, ℕ, ◌+◌, ◌<◌, Bool, false}
use Rattle.std.specs.Prelude.{List, [], ◌∷◌, length, take, get_or, Some, Ok}
use Rattle.liq_outside.specs.At.{DiskAt}
use Rattle.liq_outside.specs.Disk.{LeavesOnly, LeftNow, Only, Torn, overwritten}
use Rattle.liq_types.specs.declared.amounts.TheConstants.{LIM}
use Rattle.liq_types.specs.declared.requests.Command.{Command}
use Rattle.liq_wire.specs.Fields.{command_of}
use Rattle.liq_disk_header.specs.Layout.{Layout, header_size, header_of, least_header}
use Rattle.liq_types.specs.Verbs.{is_rotate}
use Rattle.liq_journal.specs.Written.{Written, Open, found_on, opened}
use Rattle.liq_journal.specs.Written.{EndsWith, and_then, end_of}
pub use Rattle.liq_disk_header.specs.Header.{is_odd}

-- open with this, and a 0 behind the last record
pub record Stands (odd : Bool) (bytes : List ℕ) (w : Written) : Type 0 where
  pub found : found_on odd bytes ≡ Open w
  pub ended : EndsWith 0 bytes w

-- One command more stands whole behind a gate that isn't open, with a 0 behind it.
pub record IsPending (odd : Bool) (bytes : List ℕ) (w : Written) (command : Command) : Type 0 where
  pub found : found_on odd bytes ≡ Open w
  pub opened : found_on odd (opened (end_of w) bytes) ≡ Open (and_then w command)
  pub ended : EndsWith 0 bytes (and_then w command)

abbrev pub BeforeOrAfter : Bool → Written → Command → List ℕ → Type 0
BeforeOrAfter odd w command bytes =
    Stands odd bytes w ⊎ (IsPending odd bytes w command ⊎ Stands odd bytes (and_then w command))

-- the body spells this command, which is no rotation
pub record IsBodyOf (body : List ℕ) (command : Command) : Type 0 where
  pub spelled : command_of body ≡ Ok command
  pub no_rotation : is_rotate command.call ≡ false

-- no journal is open on it
abbrev pub IsClosed : List ℕ → Type 0
IsClosed bytes = (length bytes < least_header) ⊎ ((0 < length bytes) × (get_or bytes 0 0 ≡ 0))

-- these bytes with some byte at the place
abbrev pub HasByteAt : ℕ → List ℕ → List ℕ → Type 0
HasByteAt place held bytes = (byte : ℕ) × (bytes ≡ overwritten held place (byte ∷ []))

-- a shut gate is there
pub record HasGate (place : ℕ) (bytes : List ℕ) : Type 0 where
  pub there : place < length bytes
  pub shut : get_or bytes place 0 ≡ 0

-- What shutting a gate may leave of bytes: they are as they were, or have some byte at this place,
-- where no shut gate was.
abbrev pub SettleLeaves : ℕ → List ℕ → List ℕ → Type 0
SettleLeaves place held bytes = (bytes ≡ held)
    ⊎ ((HasGate place held → ⊥) × HasByteAt place held bytes)

-- what is written by a creation
abbrev pub beginning : ℕ → List ℕ → Written
beginning generation checkpoint =
    record { generation = generation; limit = LIM; checkpoint = checkpoint; commands = [] }

-- A stop within a creation leaves nothing that is open, or what was there, with some byte at place
-- 0 where no 0 is, or what is made, with any byte there.
abbrev pub CreateLeaves : Bool → List ℕ → Written → List ℕ → Type 0
CreateLeaves odd held w bytes = IsClosed bytes
    ⊎ (SettleLeaves 0 held bytes ⊎ Stands odd (opened 0 bytes) w)

-- a closed gate stands at place 0
abbrev pub IsShut : List ℕ → Type 0
IsShut bytes = take 1 bytes ≡ 0 ∷ []

-- header, checkpoint and a shut gate written behind the gate at place 0
abbrev pub filled : Layout → ℕ → List ℕ → List ℕ → List ℕ
filled layout generation checkpoint held =
    let with_header = overwritten held 1 (header_of layout generation checkpoint) in
    let with_checkpoint = overwritten with_header (header_size layout) checkpoint in
    overwritten with_checkpoint (header_size layout + length checkpoint) (0 ∷ [])

-- what a crash may leave of a disk on which a journal is created, whose content is told and on the
-- disk
abbrev pub CrashOfCreate : {D : Type 0} → (D → DiskAt) → D → D → ℕ → List ℕ → Type 0
CrashOfCreate at old new generation checkpoint =
    (held : List ℕ) → (at old).seen ≡ Some held → Only held (LeftNow at old)
    → LeavesOnly at old new
    (CreateLeaves (is_odd generation) held (beginning generation checkpoint))

-- what it reads afterwards, if nothing was pending
abbrev pub ReadsOfCreate : {D : Type 0} → (D → DiskAt) → D → D → ℕ → List ℕ → Type 0
ReadsOfCreate at old new generation checkpoint =
    (held after : List ℕ) → (at old).seen ≡ Some held → Only held (LeftNow at old)
    → (at new).seen ≡ Some after
    → CreateLeaves (is_odd generation) held (beginning generation checkpoint) after

-- these bytes behind a gate, which is opened
abbrev pub gated : ℕ → List ℕ → List ℕ → List ℕ
gated gate bytes held = overwritten (overwritten held (gate + 1) bytes) gate (1 ∷ [])

-- any part of the bytes behind the gate, or all of them and any gate
abbrev pub GatedLeaves : ℕ → List ℕ → List ℕ → List ℕ → Type 0
GatedLeaves gate held bytes image =
    Torn (gate + 1) (length bytes) held image
    ⊎ Torn gate 1 (overwritten held (gate + 1) bytes) image
