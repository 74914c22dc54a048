-- How far a run has come.
use Rattle.std.specs.Prelude.{ℕ, ◌≡◌, ◌≢◌, ◌≤◌, ◌<◌, ◌+◌, [], ◌∷◌, ◌++◌}
use Rattle.std.specs.Prelude.{List, length, Option, IfSome, Result, Ok, Err, Bool, true, false}
use Rattle.std.specs.List.{AllByRecursion, AllZip}
use Rattle.liq_outside.specs.At.{DiskAt}
use Rattle.liq_outside.specs.declared.showing.Showing.{Showing}
use Rattle.liq_types.specs.declared.amounts.TheConstants.{LINE_BYTES, LINES_MOST}
use Rattle.liq_types.specs.declared.requests.Request.{Request}
use Rattle.liq_types.specs.State.{State}
use Rattle.liq_core.specs.Core.{Core, StandsFor}
use Rattle.liq_rule_step.specs.Step.{accepted, run, step}
use Rattle.liq_disk_pair.specs.Past.{Fault}
use Rattle.liq_word_exit.specs.declared.halts.Halt.{Halt}
use Rattle.liq_word_exit.specs.declared.halts.Halt.TheVariants.{BadLine, ReadFault, WriteFault, DiskFault, NoMemory}
use Rattle.liq_word_exit.specs.Output.{lines}
use Rattle.liq_word_exit.specs.Answered.{KeepsAnswered, Told}
use Rattle.liq_word_exit.specs.Disks.{DisksHold, IsFaultOfRun, LeavesOfRun}
use Rattle.liq_word_exit.specs.Reading.{ReadsTo}
use Rattle.liq_word_exit.specs.Requests.{IsRequest, IsNext}
use Rattle.liq_word_exit.specs.Stops.{EndsAfter}
use Rattle.liq_word_run.specs.declared.run.Next.{Next}
use Rattle.liq_word_run.specs.declared.run.Next.TheVariants.{Line, LastLine, End}
use Rattle.liq_word_run.specs.Calls.{IsCommand}
use Rattle.liq_word_run.specs.Writing.{WritesFront}
use Rattle.liq_text_lines.specs.Lines.{ended, IsWithinLine}
use Rattle.liq_text_lines.specs.Reading.{unread, Reads, IsOver}
use Rattle.liq_text_lines.specs.Writing.{Writes, WritesPart}
use Rattle.liq_text_lines.specs.Saying.{IsBadLine, BeginsWith}
use Rattle.liq_rule_step.specs.Memory.{IsAccepted, TakesMemory}
use Rattle.liq_text.specs.Replies.{reply_line}

-- a request, or why a line has none
abbrev pub RequestOn : List ℕ → ℕ → Result Request Halt → Type 0
RequestOn line number (Ok request) = IsRequest line request
RequestOn line number (Err halt) = (halt ≡ BadLine number) × IsBadLine IsRequest line

-- A bad line was read and nothing behind it: with its line end, to the input's end, or to the first
-- byte that is too many.
pub data ReadsBad (before after : Option (List ℕ)) : Type 0 where
  with_end :
      (line : List ℕ) → IsBadLine IsRequest line → IsWithinLine line
      → Reads before (line ++ 10 ∷ []) after → ReadsBad before after
  without_end :
      (line : List ℕ) → IsBadLine IsRequest line → IsWithinLine line → line ≢ []
      → Reads before line after → IsOver after → ReadsBad before after
  too_long :
      (line : List ℕ) (byte : ℕ) → IsWithinLine line → byte ≢ 10 → length line ≡ LINE_BYTES
      → Reads before (line ++ byte ∷ []) after → ReadsBad before after

-- a line was read that is a request, or there is none, or the run stops here
abbrev pub ReadsRequest : Option (List ℕ) → Option (List ℕ) → List ℕ → ℕ → Result Next Halt → Type 0
ReadsRequest before after taken number (Ok (Line request)) =
    (line : List ℕ) × IsRequest line request × IsWithinLine line
    × Reads before (line ++ 10 ∷ []) after
ReadsRequest before after taken number (Ok (LastLine request)) =
    (line : List ℕ) × IsRequest line request × IsWithinLine line × (line ≢ [])
    × Reads before line after × IsOver after
ReadsRequest before after taken number (Ok End) = Reads before [] after × IsOver after
ReadsRequest before after taken number (Err (BadLine n)) = (n ≡ number) × ReadsBad before after
ReadsRequest before after taken number (Err ReadFault) =
    (part : List ℕ) × IsWithinLine part × Reads before part after × (taken ≡ [])
    × (length part ≤ LINE_BYTES)
ReadsRequest before after taken number (Err _) = ⊥

-- a front of the requests' lines that ends within the last of them
abbrev pub IsCutInLastLine : State → List ℕ → List Request → Type 0
IsCutInLastLine start part requests =
    (earlier : List Request) × (request : Request) × (requests ≡ earlier ++ request ∷ [])
    × ((rest : List ℕ) × (part ≡ lines start earlier ++ rest))
    × ((missing : List ℕ) × (missing ≢ []) × (lines start requests ≡ part ++ missing))

-- The replies to these requests are written, but for those that wait. Of the requests whose replies
-- wait none but the first is a command: wherever the replies are cut behind what is written, the
-- state is the one after them all.
pub record Written
    (start : State) (requests : List Request) (waiting : List ℕ) (before now : Option (List ℕ))
    : Type 0 where
  pub front : List ℕ
  pub writes : Writes before front now
  pub replies : lines start requests ≡ front ++ waiting
  pub steady :
      (earlier later : List Request) (request : Request) → requests ≡ earlier ++ request ∷ later
      → length front < length (lines start (earlier ++ request ∷ []))
      → ((run start (earlier ++ request ∷ [])).0 ≡ (run start requests).0)
      × (accepted start (earlier ++ request ∷ []) ≡ accepted start requests)

-- n lines were read that are requests, and each is answered; this holds of them
pub record Answered
    (start : State) (told : Option (List ℕ)) (n : ℕ) (core : Core) (unread : Option (List ℕ))
    (waiting : List ℕ) (before now : Option (List ℕ)) (past : List Request → Type 0)
    : Type 0 where
  pub requests : List Request
  pub front : List (List ℕ)
  pub spelled : AllZip IsRequest front requests
  pub within : AllByRecursion IsWithinLine front
  pub count : length requests ≡ n
  pub reads : Reads told (ended front) unread
  pub stands : StandsFor core (run start requests).0
  pub written : Written start requests waiting before now
  pub passed : past requests

-- The request's step was made and its reply waits behind what waited, of which a front was written
-- first: all where the request is a command. Or the sink met a fault at what waited, or there was
-- no memory where it may be asked for: no step was made then.
abbrev pub Answers :
    State → Request → Result (Unit {0}) Halt → Core → List ℕ → List ℕ → Option (List ℕ)
    → Option (List ℕ) → Type 0
Answers s request (Ok done) core waited waits before after =
    StandsFor core (step s request).0
    × ((rest : List ℕ) × WritesFront (Ok tt) waited rest before after
    × (waits ≡ rest ++ reply_line (step s request).1) × (IsCommand request → rest ≡ []))
Answers s request (Err NoMemory) core waited waits before after =
    StandsFor core s × TakesMemory s request × WritesFront (Ok tt) waited waits before after
Answers s request (Err WriteFault) core waited waits before after =
    StandsFor core s × WritesPart before waited after
Answers s request (Err DiskFault) core waited waits before after =
    StandsFor core s × IsAccepted s request × WritesFront (Ok tt) waited waits before after
    × (waits ≡ [])
Answers s request (Err _) core waited waits before after = ⊥

-- What is written where a run comes to its end: all replies but those that wait, or up to a cut.
abbrev pub WrittenAt :
    State → Result (Unit {0}) Halt → List Request → List ℕ → Option (List ℕ) → Option (List ℕ)
    → Type 0
WrittenAt start (Err WriteFault) requests waiting before now =
    (part : List ℕ) × Writes before part now × IsCutInLastLine start part requests
WrittenAt start _ requests waiting before now = Written start requests waiting before now

-- Where a disk met a fault, the next line's command was on its way, nothing waits, and so it holds
-- of it. Where a reply was cut, this holds of these requests and later ones, of which none was
-- accepted. Else it holds of the requests.
abbrev pub HaltsAt :
    Result (Unit {0}) Halt → Option (List ℕ) → List Request → List ℕ → State
    → (List Request → Type 0) → (State → Request → Type 0) → (List Request → Request → Type 0)
    → Type 0
HaltsAt (Err DiskFault) told requests waiting start past kept stopped =
    let s = (run start requests).0 in
    (request : Request) × IsNext told requests request × IsAccepted s request × (waiting ≡ [])
    × kept s request × stopped requests request
HaltsAt (Err WriteFault) told requests waiting start past kept stopped =
    (later : List Request) × (accepted start (requests ++ later) ≡ accepted start requests)
    × past (requests ++ later)
HaltsAt _ told requests waiting start past kept stopped = past requests

-- what a source told begins with lines of these requests
abbrev pub Begins : Option (List ℕ) → List Request → Type 0
Begins told requests =
    IfSome told (λ bytes. (more : List (List ℕ)) × BeginsWith IsRequest bytes requests more)

-- and is read so, where a run comes to this end
abbrev pub IsRead :
    Result (Unit {0}) Halt → Option (List ℕ) → Option (List ℕ) → List Request → Type 0
IsRead end told left requests =
    IfSome told (λ bytes. ReadsTo IsRequest bytes left requests end)

-- a run came to its end, some replies wait, and the protocol stands for the state after the
-- requests
pub record Comes
    (start : State) (end : Result (Unit {0}) Halt) (core : Core) (past : List Request → Type 0)
    (kept : State → Request → Type 0) (stopped : List Request → Request → Type 0)
    (told left : Option (List ℕ)) (waiting : List ℕ) (before now : Option (List ℕ)) : Type 0 where
  pub requests : List Request
  pub few : length requests ≤ LINES_MOST
  pub why : EndsAfter start end told left requests
  pub read : IsRead end told left requests
  pub begins : Begins told requests
  pub written : WrittenAt start end requests waiting before now
  pub stands : StandsFor core (run start requests).0
  pub halted : HaltsAt end told requests waiting start past kept stopped

-- What is written at a run's end, but for the last line of one that stops: all replies, or up to a
-- cut.
abbrev pub WritesReplies :
    State → Result (Unit {0}) Halt → List Request → Option (List ℕ) → Option (List ℕ) → Type 0
WritesReplies start (Err WriteFault) requests before now =
    (part : List ℕ) × Writes before part now × IsCutInLastLine start part requests
WritesReplies start _ requests before now = Writes before (lines start requests) now

-- a run is at its end, its last line is not written yet, and the protocol stands for the state
-- after the requests
pub record Ends
    (start : State) (end : Result (Unit {0}) Halt) (core : Core) (past : List Request → Type 0)
    (kept : State → Request → Type 0) (stopped : List Request → Request → Type 0)
    (told left : Option (List ℕ)) (before now : Option (List ℕ)) : Type 0 where
  pub requests : List Request
  pub few : length requests ≤ LINES_MOST
  pub why : EndsAfter start end told left requests
  pub read : IsRead end told left requests
  pub written : WritesReplies start end requests before now
  pub stands : StandsFor core (run start requests).0
  pub halted : HaltsAt end told requests [] start past kept stopped

-- The same of a run that has given back its disks. Its sink was shown `shown` before it and
-- `shown_now` by then, and may hold whatever comes behind the replies: the disks have what was
-- answered.
pub record GivesBack
    {D : Type 0} (at : D → DiskAt) (old_left old_right : D) (start : State)
    (end : Result (Unit {0}) Halt) (told : Option (List ℕ)) (l r : List ℕ)
    (unread before now : Option (List ℕ))
    (shown shown_now : Option (List Showing)) (left right : D) : Type 0 where
  pub requests : List Request
  pub few : length requests ≤ LINES_MOST
  pub why : EndsAfter start end told unread requests
  pub read : IsRead end told unread requests
  pub written : WritesReplies start end requests before now
  pub disks : DisksHold at end told unread l r start left right requests
  pub fault : Fault
  pub fault_is : IsFaultOfRun start end told unread requests fault
  pub past : LeavesOfRun at old_left old_right (λ met. met ≡ fault) l r start requests left right
  pub answered : (last : Option (List ℕ)) → Told before shown last shown_now (λ was earlier is all.
      KeepsAnswered at l r start requests fault old_left old_right was earlier left right is all)

-- One more line was answered, or the run comes to its end.
abbrev pub Turns :
    State → (List Request → Type 0) → (State → Request → Type 0) → (List Request → Request → Type 0)
    → Option (List ℕ) → ℕ → Core → Option (List ℕ) → Option (List ℕ)
    → List ℕ → Option (List ℕ) → Option (List ℕ) → Result Bool Halt → Type 0
Turns start past kept stopped told n core unread left waiting before now (Ok true) =
    Answered start told (n + 1) core unread waiting before now past
Turns start past kept stopped told n core unread left waiting before now (Ok false) =
    Comes start (Ok tt) core past kept stopped told left waiting before now
Turns start past kept stopped told n core unread left waiting before now (Err halt) =
    Comes start (Err halt) core past kept stopped told left waiting before now
