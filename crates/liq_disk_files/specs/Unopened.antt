-- Why there are no disks: what the system answered last.
use Rattle.std.specs.Prelude.{◌≡◌, ◌≤ℤ◌, ◌⊎◌, ℕ, pos, true, false, List, [], ◌∷◌, Some, None, Result, Ok, Err}
use Rattle.std.specs.Fd.{file_raw_fd}
use Rattle.std.specs.declared.fs.File.{File}
use Rattle.std.specs.declared.fs.TryLockError.{TryLockError}
use Rattle.liq_disk_files.specs.Asked.{Asked, User, Behind, Looked, Opened, Told, Saw, Read, Locked, Synced, WasAsked}
use Rattle.liq_disk_files.specs.Held.{IsHeld}
use Rattle.liq_disk_files.specs.Names.{text_of}
use Rattle.liq_disk_files.specs.Opened.{Knows, LeadsTo, LeftIsTaken, WasOpened}
use Rattle.liq_disk_files.specs.Taking.{MayBeTaken}
use Rattle.liq_disk_files.specs.declared.calls.Name.{Name}
use Rattle.liq_disk_files.specs.declared.calls.Name.TheVariants.{Left, Right}
use Rattle.liq_disk_files.specs.declared.calls.Opening.{Opening}
use Rattle.liq_disk_files.specs.declared.calls.Refusal.{Refusal}
use Rattle.liq_disk_files.specs.declared.calls.Refusal.TheVariants.{Missing, Exists, Other}
use Rattle.liq_disk_files.specs.declared.calls.Seen.{Seen}
use Rattle.liq_disk_files.specs.declared.calls.Stream.{Stream}
use Rattle.liq_disk_files.specs.declared.found.FileId.{FileId}
use Rattle.liq_disk_files.specs.declared.found.Found.{Found}

-- The system was asked for the file that is there, and refused so. What is no regular file is
-- refused too.
abbrev pub IsRefused : Name → Refusal → List Asked → List Asked → Type 0
IsRefused name refusal before calls =
    (calls ≡ Looked name (Err refusal) ∷ before)
    ⊎ ((refusal ≡ Other) × (calls ≡ Looked name (Ok false) ∷ before))
    ⊎ ((how : Opening) × (how.create_new ≡ false)
    × (calls ≡ Opened name how (Err refusal) ∷ Looked name (Ok true) ∷ before))

-- No file of this name was opened: the one that is there was refused, or a new one was; or one came
-- when it was to be made, and was refused then.
abbrev pub IsUnopened : Name → List Asked → Type 0
IsUnopened name calls = (refusal : Refusal) × (before : List Asked)
    × (((refusal ≡ Missing → ⊥) × IsRefused name refusal before calls)
    ⊎ ((how : Opening) × (how.create_new ≡ true)
    × (((refusal ≡ Exists → ⊥) × (calls ≡ Opened name how (Err refusal) ∷ before))
    ⊎ IsRefused name refusal (Opened name how (Err Exists) ∷ before) calls)))

-- It was not found to what a name leads: the system did not say what stands there. Or a link stood
-- there last, that the user does not follow, that changed meanwhile, behind which come too many, or
-- for whose path there was no memory.
abbrev pub IsLost : List Asked → Type 0
IsLost calls = (path : List ℕ) × (before : List Asked)
    × ((calls ≡ Saw path None ∷ before)
    ⊎ (calls ≡ Read path None ∷ before)
    ⊎ ((seen : Seen) × (seen.is_link ≡ true) × ((calls ≡ Saw path (Some seen) ∷ before)
    ⊎ ((target : List ℕ) × (again : Seen) × (calls ≡ Saw path (Some again)
    ∷ Read path (Some target) ∷ Saw path (Some seen) ∷ before)))))

-- The file that was opened under this name is not the one to which the name leads, or the user may
-- not take it.
pub record IsJudged (user : ℕ) (others : List FileId) (name : Name) (calls : List Asked) : Type 0 where
  pub file : File
  pub found : Found
  pub named : Found
  pub opened : WasOpened name file calls
  pub told : WasAsked (Told file (Some found)) calls
  pub leads : LeadsTo user (text_of name) named calls
  pub fault : (named.id ≡ found.id → ⊥) ⊎ (MayBeTaken user others found → ⊥)

-- The file's lock was not taken, or the file stands for a standard stream.
abbrev pub IsNotHeld : List Asked → Type 0
IsNotHeld calls =
    (file : File) × (answer : Result (Unit {0}) TryLockError) × (before : List Asked)
    × (calls ≡ Locked file answer ∷ before)
    × ((IsHeld answer → ⊥) ⊎ (pos 3 ≤ℤ file_raw_fd file → ⊥))

-- why the file of this name is not taken
pub data IsUntaken (user : ℕ) (others : List FileId) (name : Name) (calls : List Asked) : Type 0 where
  unopened : IsUnopened name calls → IsUntaken user others name calls
  untold : (file : File) (before : List Asked) → calls ≡ Told file None ∷ before
      → IsUntaken user others name calls
  lost : IsLost calls → IsUntaken user others name calls
  judged : IsJudged user others name calls → IsUntaken user others name calls
  not_held : IsNotHeld calls → IsUntaken user others name calls

-- the system did not say what stands under a name, or did not sync the folder of its file
abbrev pub IsUnsynced : List Asked → Type 0
IsUnsynced calls = (before : List Asked)
    × (((path : List ℕ) × (calls ≡ Saw path None ∷ before))
    ⊎ ((name : Name) × (calls ≡ Synced name false ∷ before)))

-- why there are no disks
pub data HasNone (calls : List Asked) : Type 0 where
  no_user : (before : List Asked) → calls ≡ User None ∷ before → HasNone calls
  no_stream : (stream : Stream) (before : List Asked) → calls ≡ Behind stream None ∷ before
      → HasNone calls
  no_left : (user : ℕ) (input output errors : FileId) → Knows user input output errors calls
      → IsUntaken user (input ∷ output ∷ errors ∷ []) Left calls → HasNone calls
  no_right : (left : LeftIsTaken calls)
      → IsUntaken left.user (left.input ∷ left.output ∷ left.errors ∷ left.found.id ∷ []) Right calls
      → HasNone calls
  not_synced : IsUnsynced calls → HasNone calls
