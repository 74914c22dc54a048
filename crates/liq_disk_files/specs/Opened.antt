-- How the two files are opened and taken, over what was asked of the system and answered.
use Rattle.std.specs.Prelude.{◌≡◌, ◌⊎◌, ℕ, true, false, List, [], ◌∷◌, Option, Some, Result, Ok, Err, IfOk, IfSome}
use Rattle.std.specs.declared.fs.File.{File}
use Rattle.std.specs.declared.fs.TryLockError.{TryLockError}
use Rattle.liq_disk_files.specs.Asked.{Asked, User, Behind, Looked, Opened, Told, Saw, Read, Locked, Synced, Earlier, WasAsked}
use Rattle.liq_disk_files.specs.Held.{IsHeld}
use Rattle.liq_disk_files.specs.Names.{text_of}
use Rattle.liq_disk_files.specs.Taking.{MayBeFollowed, MayBeTaken}
use Rattle.liq_disk_files.specs.declared.calls.Name.{Name}
use Rattle.liq_disk_files.specs.declared.calls.Name.TheVariants.{Left, Right}
use Rattle.liq_disk_files.specs.declared.calls.Opening.{Opening}
use Rattle.liq_disk_files.specs.declared.calls.Refusal.{Refusal}
use Rattle.liq_disk_files.specs.declared.calls.Refusal.TheVariants.{Missing}
use Rattle.liq_disk_files.specs.declared.calls.Seen.{Seen}
use Rattle.liq_disk_files.specs.declared.calls.Stream.TheVariants.{Input, Output, Errors}
use Rattle.liq_disk_files.specs.declared.found.FileId.{FileId}
use Rattle.liq_disk_files.specs.declared.found.Found.{Found}

-- the last answer was that a regular file is there
abbrev pub SawRegular : Name → List Asked → Type 0
SawRegular name calls = (before : List Asked) × (calls ≡ Looked name (Ok true) ∷ before)

-- the last answer was that there is no such file
abbrev pub SawNone : Name → List Asked → Type 0
SawNone name calls =
    ((before : List Asked) × (calls ≡ Looked name (Err Missing) ∷ before))
    ⊎ ((how : Opening) × (before : List Asked) × (calls ≡ Opened name how (Err Missing) ∷ before))

-- the file was opened under this name
abbrev pub WasOpened : Name → File → List Asked → Type 0
WasOpened name file calls = (how : Opening) × WasAsked (Opened name how (Ok file)) calls

-- the file's lock was taken, or the file system has none
abbrev pub WasHeld : File → List Asked → Type 0
WasHeld file calls =
    (answer : Result (Unit {0}) TryLockError) × WasAsked (Locked file answer) calls × IsHeld answer

-- both looks saw the same link: none took its name meanwhile
abbrev pub IsUnchanged : Seen → Seen → Type 0
IsUnchanged seen again = (seen.found.id ≡ again.found.id) × (seen.changed ≡ again.changed)

-- The text leads to this path by links that the user follows, each of them looked at again once it
-- was read.
pub data Leads (user : ℕ) (text : List ℕ) : List ℕ → List Asked → Type 0 where
  here : {calls : List Asked} → Leads user text text calls
  along :
      {link target : List ℕ} {calls : List Asked} {seen again : Seen}
      → Leads user text link calls
      → MayBeFollowed user seen.found.owner
      → IsUnchanged seen again
      → Leads user text target (Saw link (Some again) ∷ Read link (Some target)
      ∷ Saw link (Some seen) ∷ calls)

-- The text leads to the file that was found.
pub record LeadsTo (user : ℕ) (text : List ℕ) (found : Found) (calls : List Asked) : Type 0 where
  pub path : List ℕ
  pub seen : Seen
  pub before : List Asked
  pub looked : Earlier (Saw path (Some seen) ∷ before) calls
  pub leads : Leads user text path before
  pub is_no_link : seen.is_link ≡ false
  pub same : seen.found.id ≡ found.id

-- where a file was found, the text leads to it
abbrev pub LeadsToIt : ℕ → List ℕ → Option Found → List Asked → Type 0
LeadsToIt user text result calls = IfSome result (λ found. LeadsTo user text found calls)

-- The file was opened under this name, it is the one to which the name leads, the user may take it,
-- and it is held.
pub record Taken (user : ℕ) (others : List FileId) (name : Name) (file : File) (found : Found)
    (calls : List Asked)
    : Type 0 where
  pub opened : WasOpened name file calls
  pub told : WasAsked (Told file (Some found)) calls
  pub named : LeadsTo user (text_of name) found calls
  pub may : MayBeTaken user others found
  pub held : WasHeld file calls

-- the system said who the user is, and which files are behind the standard streams
pub record Knows (user : ℕ) (input output errors : FileId) (calls : List Asked) : Type 0 where
  pub is_user : WasAsked (User (Some user)) calls
  pub is_input : WasAsked (Behind Input (Some input)) calls
  pub is_output : WasAsked (Behind Output (Some output)) calls
  pub is_errors : WasAsked (Behind Errors (Some errors)) calls

-- the left file is taken, and is no standard stream
pub record LeftIsTaken (calls : List Asked) : Type 0 where
  pub user : ℕ
  pub input : FileId
  pub output : FileId
  pub errors : FileId
  pub file : File
  pub found : Found
  pub knows : Knows user input output errors calls
  pub taken : Taken user (input ∷ output ∷ errors ∷ []) Left file found calls

-- the right file's turn comes once the left one is taken
abbrev pub IsItsTurn : Name → List Asked → Type 0
IsItsTurn Left calls = Unit {0}
IsItsTurn Right calls = LeftIsTaken calls

-- a file is opened to read and to write, and never truncated
abbrev pub KeepsBytes : Opening → Type 0
KeepsBytes how = (how.read ≡ true) × (how.write ≡ true) × (how.truncate ≡ false)

-- a regular file that is there is opened as it is; where there is none a new one is made, for its
-- owner alone
abbrev pub OpensOrMakes : Name → Opening → List Asked → Type 0
OpensOrMakes name how before =
    ((how.create_new ≡ false) × SawRegular name before)
    ⊎ ((how.create_new ≡ true) × (how.mode ≡ 0o600) × SawNone name before)

-- the file of this name may be opened so, behind these calls
pub record MayOpen (name : Name) (how : Opening) (before : List Asked) : Type 0 where
  pub keeps : KeepsBytes how
  pub there_or_made : OpensOrMakes name how before
  pub in_turn : IsItsTurn name before

-- each file was asked for as it may be, whether the system then opened it or refused
abbrev pub OpensWell : List Asked → Type 0
OpensWell [] = Unit {0}
OpensWell (Opened name how answer ∷ before) = MayOpen name how before × OpensWell before
OpensWell (_ ∷ before) = OpensWell before

-- Both names were looked at, and then the folders of both files were synced. It is one folder,
-- which was synced once, only where neither name is a link: then both stand in the folder in which
-- the program runs.
pub record AreSynced (before calls : List Asked) : Type 0 where
  pub left : Seen
  pub right : Seen
  pub looked : List Asked
  pub looks :
      looked ≡ Saw (text_of Right) (Some right) ∷ Saw (text_of Left) (Some left) ∷ before
  pub synced :
      (calls ≡ Synced Right true ∷ Synced Left true ∷ looked)
      ⊎ (left.is_link ≡ false) × (right.is_link ≡ false) × (calls ≡ Synced Left true ∷ looked)

-- Both files are taken, and then their folders were synced. Neither is the other or a standard
-- stream.
pub record BothTaken (left right : File) (calls : List Asked) : Type 0 where
  pub user : ℕ
  pub input : FileId
  pub output : FileId
  pub errors : FileId
  pub left_found : Found
  pub right_found : Found
  pub before : List Asked
  pub synced : AreSynced before calls
  pub knows : Knows user input output errors before
  pub left_taken : Taken user (input ∷ output ∷ errors ∷ []) Left left left_found before
  pub right_taken : Taken user (input ∷ output ∷ errors ∷ left_found.id ∷ []) Right right
      right_found before

-- where both are handed out, both are taken
abbrev pub AreTaken : Option File → Option File → List Asked → Type 0
AreTaken left right calls = IfSome left (λ l. IfSome right (λ r. BothTaken l r calls))

-- where the file is handed out, it is taken
abbrev pub IsTaken : ℕ → List FileId → Name → Option File → Found → List Asked → Type 0
IsTaken user others name device found calls =
    IfSome device (λ file. Taken user others name file found calls)

-- where a file was answered, it was opened under this name
abbrev pub IsOpened : Name → Result File Refusal → List Asked → Type 0
IsOpened name result calls = IfOk result (λ file. WasOpened name file calls)

-- a call of the name's turn leaves each file asked for as it may be
abbrev pub OpensInTurn : Name → List Asked → List Asked → Type 0
OpensInTurn name old new = IsItsTurn name old → OpensWell old → OpensWell new
