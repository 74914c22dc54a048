-- What was asked of the system so far, and what it answered: a list of calls, the last one first.
use Rattle.std.specs.Prelude.{ℕ, Bool, List, ◌∷◌, Option, Result}
use Rattle.std.specs.declared.fs.File.{File}
use Rattle.std.specs.declared.fs.TryLockError.{TryLockError}
use Rattle.liq_disk_files.specs.declared.calls.Name.{Name}
use Rattle.liq_disk_files.specs.declared.calls.Opening.{Opening}
use Rattle.liq_disk_files.specs.declared.calls.Refusal.{Refusal}
use Rattle.liq_disk_files.specs.declared.calls.Seen.{Seen}
use Rattle.liq_disk_files.specs.declared.calls.Stream.{Stream}
use Rattle.liq_disk_files.specs.declared.found.FileId.{FileId}
use Rattle.liq_disk_files.specs.declared.found.Found.{Found}

pub data Asked : Type 0 where
  -- who the effective user is
  User : (answer : Option ℕ) → Asked
  -- which file is behind a standard stream
  Behind : (stream : Stream) (answer : Option FileId) → Asked
  -- which file the name leads to
  Named : (name : Name) (answer : Result Found Refusal) → Asked
  -- whether a regular file is behind a standard stream, or may be
  Regular : (stream : Stream) (answer : Bool) → Asked
  -- whether a regular file is what the name leads to
  Looked : (name : Name) (answer : Result Bool Refusal) → Asked
  -- open(2)
  Opened : (name : Name) (how : Opening) (answer : Result File Refusal) → Asked
  -- fstat(2)
  Told : (file : File) (answer : Option Found) → Asked
  -- lstat(2)
  Saw : (path : List ℕ) (answer : Option Seen) → Asked
  -- readlink(2), and the path to which the link leads from here
  Read : (link : List ℕ) (answer : Option (List ℕ)) → Asked
  -- flock(2), exclusive and without waiting
  Locked : (file : File) (answer : Result (Unit {0}) TryLockError) → Asked
  -- fsync(2) of the folder in which the file of this name really is: whether it was done
  Synced : (name : Name) (answer : Bool) → Asked

-- those calls were all at an earlier moment, or are all now
pub data Earlier (past : List Asked) : List Asked → Type 0 where
  now : Earlier past past
  later : {call : Asked} {calls : List Asked} → Earlier past calls → Earlier past (call ∷ calls)

-- among these calls is this one, with this answer
abbrev pub WasAsked : Asked → List Asked → Type 0
WasAsked call calls = (before : List Asked) × Earlier (call ∷ before) calls
