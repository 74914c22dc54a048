-- Where a word ends, and what it has written by then.
use Rattle.std.specs.Prelude.{ℕ, ◌≡◌, ◌≢◌, ◌≤◌, ◌<◌, ◌+◌, ◌∷◌, [], ◌++◌, ◌⊎◌, List, length, Option, IfSome, Ok, Err}
use Rattle.liq_outside.specs.At.{DiskAt}
use Rattle.liq_outside.specs.declared.showing.Showing.{Showing}
use Rattle.liq_types.specs.declared.amounts.TheConstants.{LINES_MOST}
use Rattle.liq_types.specs.declared.requests.Request.{Request}
use Rattle.liq_types.specs.Image.{IsLimit}
use Rattle.liq_types.specs.State.{State, opening_with}
use Rattle.liq_stability.specs.Promise.{IsWithinAllowance}
use Rattle.liq_rule_step.specs.Events.{events}
use Rattle.liq_rule_step.specs.Image.{IsSameState}
use Rattle.liq_rule_step.specs.Step.{run, accepted}
use Rattle.liq_journal.specs.declared.damage.Damage.{Damage}
use Rattle.liq_disk_pair.specs.declared.side.Side.{Side}
use Rattle.liq_disk_pair.specs.Past.{Fault}
use Rattle.liq_word_exit.specs.declared.halts.Halt.{Halt}
use Rattle.liq_word_exit.specs.declared.halts.Halt.TheVariants.{BadLine, WriteFault, DiskFault, Damaged, DamagedInput, NoMemory, Limit, Rotated}
use Rattle.liq_word_exit.specs.Answered.{KeepsAnswered, Told}
use Rattle.liq_word_exit.specs.Disks.{DisksHold, IsFaultOfRun, IsUnread, LeavesDamaged, LeavesOfRun}
use Rattle.liq_word_exit.specs.Output.{last, lines}
use Rattle.liq_word_exit.specs.Requests.{IsNext, IsRequest}
use Rattle.liq_word_exit.specs.Reading.{ReadsTo}
use Rattle.liq_text_lines.specs.Writing.{Writes, WritesPart}
use Rattle.liq_rule_step.specs.Memory.{TakesMemory}
use Rattle.liq_word_exit.specs.Statuses.{End}

-- Every depositor has its share after these requests from a state, whichever requests led from the
-- opening, under either limit, to one that is the same in image and count of records: an account's
-- balance and all that it gained are at most its exact share of what all accepted commands did to
-- the Stability Pool, and short of it by at most the allowance. None lead to a later generation
-- under the lesser limit, which only an earlier program's rotation left.
abbrev pub HaveTheirShares : State → List Request → Type 0
HaveTheirShares start requests = (limit : ℕ) → IsLimit limit → (earlier : List Request)
    → IsSameState (run (opening_with limit) earlier).0 start
    → (account : ℕ) → IsWithinAllowance (run start requests).0 account
    (events (opening_with limit) (accepted (opening_with limit) (earlier ++ requests)))

-- Behind what was said the line was written, or a front of it where the sink met a fault.
abbrev pub Adds : List ℕ → List ℕ → Type 0 → Option (List ℕ) → Option (List ℕ) → Type 0
Adds said line fault before now = (part : List ℕ) × Writes before (said ++ part) now
    × ((part ≡ line) ⊎ (fault × ((rest : List ℕ) × (line ≡ part ++ rest))))

-- A text is written, as far as the end says. Where the word stopped, this was said of it, and then
-- the last line.
abbrev pub TellsBehind : List ℕ → List ℕ → End → Type 0 → Option (List ℕ) → Option (List ℕ) → Type 0
TellsBehind said text (Ok done) fault before now = Writes before text now
-- the sink met a fault within it
TellsBehind said text (Err WriteFault) fault before now = WritesPart before text now
TellsBehind said text (Err halt) fault before now = Adds said (last halt) fault before now

-- ---- for the contracts below the top call's

-- A word over damaged disks stops, and writes its last line alone.
abbrev pub StopsDamaged : {D : Type 0} → (D → DiskAt) → D → D → List ℕ → List ℕ → Side → Damage
    → End → Type 0 → Option (List ℕ) → Option (List ℕ) → D → D → Type 0
StopsDamaged at old_left old_right l r side damage end fault before now left right =
    (halt : Halt) × (end ≡ Err halt)
    × LeavesDamaged at old_left old_right l r side damage (Err halt) left right
    × Adds [] (last halt) fault before now

-- Why a run from a state ended behind these requests, whatever its source tells. Of a fault the
-- counts tell the cause. `told` is what the source told before, and `unread` what it still tells.
abbrev pub EndsAfter : State → End → Option (List ℕ) → Option (List ℕ) → List Request → Type 0
-- the next line is no request, and it is one of those that one run answers
EndsAfter start (Err (BadLine number)) told unread requests =
    (number ≡ length requests + 1) × (number ≤ LINES_MOST)
-- a disk meets a fault in the opening, or at a line that one run answers
EndsAfter start (Err DiskFault) told unread requests = length requests < LINES_MOST
-- a run over damaged disks begins nowhere
EndsAfter start (Err (Damaged side number)) told unread requests = ⊥
-- what it reads are requests
EndsAfter start (Err (DamagedInput number)) told unread requests = ⊥
-- memory is asked for before a line is read, and then only for such a line's command that is
-- allowed or plans a list
EndsAfter start (Err NoMemory) told unread requests = IsUnread told unread requests
    ⊎ ((length requests < LINES_MOST) × ((request : Request) × IsNext told requests request
    × TakesMemory (run start requests).0 request))
-- as many lines were answered as one run answers
EndsAfter start (Err (Limit number)) told unread requests =
    (number ≡ LINES_MOST) × (length requests ≡ LINES_MOST)
-- and it goes on in whatever generation
EndsAfter start (Err (Rotated generation)) told unread requests = ⊥
EndsAfter start _ told unread requests = Unit {0}

-- What a run has written by its end: all replies, and the last line where it stopped. Where the
-- sink met a fault at a reply, it is a front of the requests' lines that ends within the last of
-- them.
abbrev pub WritesUpTo : State → End → Type 0 → List Request → Option (List ℕ) → Option (List ℕ)
    → Type 0
WritesUpTo start (Err WriteFault) fault requests before now = (part : List ℕ)
    × Writes before part now
    × ((earlier : List Request) × (request : Request) × (requests ≡ earlier ++ request ∷ [])
    × ((rest : List ℕ) × (part ≡ lines start earlier ++ rest))
    × ((missing : List ℕ) × (missing ≢ []) × (lines start requests ≡ part ++ missing)))
WritesUpTo start end fault requests before now =
    TellsBehind (lines start requests) (lines start requests) end fault before now

-- How a run ends that began with l and r on its disks, for which they stood for this state. `told`
-- is what the source told, and `unread` what it still tells; `before` and `now` are what the sink
-- held and holds, and `shown` and `shown_now` what it was shown by then.
pub record EndsIn {D : Type 0} (at : D → DiskAt) (old_left old_right : D) (start : State)
    (end : End) (told : Option (List ℕ)) (l r : List ℕ) (unread : Option (List ℕ))
    (sink_fails : Type 0) (before now : Option (List ℕ))
    (shown shown_now : Option (List Showing)) (left right : D) : Type 0 where
  pub requests : List Request
  -- they are no more than one run answers
  pub few : length requests ≤ LINES_MOST
  pub why : EndsAfter start end told unread requests
  pub read : IfSome told (λ bytes. ReadsTo IsRequest bytes unread requests end)
  pub written : WritesUpTo start end sink_fails requests before now
  pub disks : DisksHold at end told unread l r start left right requests
  -- where a disk met a fault
  pub fault : Fault
  pub fault_is : IsFaultOfRun start end told unread requests fault
  pub past : LeavesOfRun at old_left old_right (λ met. met ≡ fault) l r start requests left right
  -- and wherever a stop was, all that was answered by then is on the disks
  pub answered : Told before shown now shown_now (λ was earlier is all.
      KeepsAnswered at l r start requests fault old_left old_right was earlier left right is all)
  -- and after them no depositor has more than its share, or less by more than is allowed
  pub shares : HaveTheirShares start requests
