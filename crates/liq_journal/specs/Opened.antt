-- What an opening finds, and what it leaves.
use Rattle.std.specs.Prelude.{◌≡◌, ◌⊎◌, ◌<◌, ℕ, List, length, get_or, Bool, Some, Ok}
use Rattle.liq_outside.specs.At.{DiskAt}
use Rattle.liq_outside.specs.Disk.{LeavesOnly, LeftNow, Only}
use Rattle.liq_journal.specs.Look.{look_on}
use Rattle.liq_journal.specs.declared.answers.Look.TheVariants as told
use Rattle.liq_journal.specs.declared.answers.LookFault.{LookFault}
use Rattle.liq_journal.specs.declared.answers.LookFault.TheVariants as look
use Rattle.liq_journal.specs.declared.answers.OpenWhy.{OpenWhy}
use Rattle.liq_journal.specs.declared.answers.OpenWhy.TheVariants as why
use Rattle.liq_journal.specs.declared.scanned.Scanned.{Scanned}
use Rattle.liq_journal.specs.Written.{Written, Absent, Damaged, Open, found_on, start_of, end_of}
use Rattle.liq_journal.specs.Crash.{HasByteAt, HasGate}

-- a look's fault as an opening's
abbrev pub why_of : LookFault → OpenWhy
why_of look.DiskFault = why.DiskFault
why_of (look.Damaged damage) = why.Damaged damage

-- what was read is what is found
pub record IsScanOf (odd : Bool) (held : List ℕ) (scanned : Scanned) : Type 0 where
  pub written : Written
  pub found : found_on odd held ≡ Open written
  pub generation_is : written.generation ≡ scanned.generation
  pub limit_is : written.limit ≡ scanned.limit
  pub checkpoint_is : written.checkpoint ≡ scanned.checkpoint.items
  pub start_is : start_of written ≡ scanned.start
  pub count_is : length written.commands ≡ scanned.count

-- Why nothing was opened. Memory is wanting only where a look finds no fault, in the header and the
-- digest over its checkpoint.
abbrev pub IsWhyOf : Bool → List ℕ → OpenWhy → Type 0
IsWhyOf odd held why.Absent = found_on odd held ≡ Absent
IsWhyOf odd held why.DiskFault = Unit {0}
IsWhyOf odd held (why.Damaged damage) = found_on odd held ≡ Damaged damage
IsWhyOf odd held why.NoMemory = (generation : ℕ) × (look_on odd held ≡ Ok (told.Open generation))

-- a byte other than 0 at place 0
pub record IsUnshut (bytes : List ℕ) : Type 0 where
  pub there : 0 < length bytes
  pub isnt : get_or bytes 0 0 ≡ 0 → ⊥

-- The byte that an opening shuts: behind the records where no 0 is there, and at place 0 of a disk
-- on which none is open where it is there and isn't 0.
abbrev pub IsUnsettled : Bool → List ℕ → ℕ → Type 0
IsUnsettled odd held place =
    ((w : Written) × (found_on odd held ≡ Open w) × (place ≡ end_of w) × (HasGate place held → ⊥))
    ⊎ ((found_on odd held ≡ Absent) × (place ≡ 0) × IsUnshut held)

-- An opening leaves the bytes as they were, or with some byte where it shuts one.
abbrev pub OpenLeaves : Bool → List ℕ → List ℕ → Type 0
OpenLeaves odd held bytes =
    (bytes ≡ held) ⊎ ((place : ℕ) × IsUnsettled odd held place × HasByteAt place held bytes)

abbrev pub AbsentLeaves : List ℕ → List ℕ → Type 0
AbsentLeaves held bytes = (bytes ≡ held) ⊎ (IsUnshut held × HasByteAt 0 held bytes)

-- an opening that fails so leaves the disk telling what it told before
abbrev pub IsKept : OpenWhy → Type 0
IsKept why.NoMemory = Unit {0}
IsKept (why.Damaged damage) = Unit {0}
IsKept why.Absent = ⊥
IsKept why.DiskFault = ⊥

-- an opening that fails so leaves nothing pending
abbrev pub IsAtRest : OpenWhy → Type 0
IsAtRest why.DiskFault = ⊥
IsAtRest why.Absent = Unit {0}
IsAtRest why.NoMemory = Unit {0}
IsAtRest (why.Damaged damage) = Unit {0}

-- what was found is what the journal and the bytes of the checkpoint are
pub record IsOpened (odd : Bool) (held : List ℕ) (generation limit start count : ℕ)
    (checkpoint : List ℕ) : Type 0 where
  pub written : Written
  pub found : found_on odd held ≡ Open written
  pub generation_is : written.generation ≡ generation
  pub limit_is : written.limit ≡ limit
  pub start_is : start_of written ≡ start
  pub count_is : length written.commands ≡ count
  pub checkpoint_is : written.checkpoint ≡ checkpoint

-- what a crash may leave of a disk that is opened, whose content is told and on the disk
abbrev pub CrashOfOpen : {D : Type 0} → (D → DiskAt) → D → D → Bool → Type 0
CrashOfOpen at old new odd =
    (held : List ℕ) → (at old).seen ≡ Some held → Only held (LeftNow at old)
    → LeavesOnly at old new (OpenLeaves odd held)

-- what it reads afterwards, whatever was pending
abbrev pub ReadsOfOpen : {D : Type 0} → (D → DiskAt) → D → D → Bool → Type 0
ReadsOfOpen at old new odd =
    (held after : List ℕ) → (at old).seen ≡ Some held → (at new).seen ≡ Some after
    → OpenLeaves odd held after
