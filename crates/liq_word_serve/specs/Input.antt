-- The word `serve` over an input and two disks, as `serve_input` promises it: what was read, what
-- was answered, what was written, what the disks hold, and whose count of faults rose. All five
-- go by the finish. `ServesInput` has the first four, over one list of what the lines ask and one
-- history of what was answered. The counts of sink and disks stand at the end. Which status a
-- finish comes to is said in `liq_serve` (Finishing).
use Rattle.std.specs.Prelude.{ℕ, ◌≡◌, ◌≢◌, ◌≤◌, ◌⊎◌, ◌++◌, List, [], ◌∷◌, length, All}
use Rattle.std.specs.Prelude.{false, true, map, Option, Some, Result, Ok, Err}
use Rattle.std.specs.Option.{IsSomeAnd}
use Rattle.liq_outside.specs.At.{DiskAt, SinkAt}
use Rattle.liq_outside.specs.Disk.{LeavesOnly, LeftNow, Only}
use Rattle.liq_outside.specs.Faults.{Rose}
use Rattle.liq_outside.specs.Showings.{Notes}
use Rattle.liq_types.specs.declared.amounts.TheConstants.{LINES_MOST}
use Rattle.liq_types.specs.declared.requests.Command.{Command}
use Rattle.liq_types.specs.declared.requests.Request.{Request}
use Rattle.liq_types.specs.declared.requests.Request.TheVariants.{Do}
use Rattle.liq_types.specs.State.{State}
use Rattle.liq_rule_step.specs.History.{Entry, IsLegal, requests_of, state_after}
use Rattle.liq_rule_step.specs.Step.{Allowed, after, ruling}
use Rattle.liq_journal.specs.declared.damage.Damage.{Damage}
use Rattle.liq_journal.specs.Opened.{OpenLeaves}
use Rattle.liq_disk_pair.specs.declared.side.Side.{Side}
use Rattle.liq_disk_pair.specs.Commands.{kept_behind}
use Rattle.liq_disk_pair.specs.Kept.{IsKept, IsKeptWith}
use Rattle.liq_disk_pair.specs.Pair.{commands_on, state_on}
use Rattle.liq_disk_pair.specs.Past.{AtCommand, Fault, InOpening, NoFault, failed_commands}
use Rattle.liq_disk_pair.specs.Past.{held_at_end}
use Rattle.liq_disk_pair.specs.Unfinished.{IsRecovered, LeftLeaves}
use Rattle.liq_store.specs.declared.answers.StoreWhy.TheVariants as why
use Rattle.liq_store.specs.Causes.{CausesWhy, Faults, OneRose}
use Rattle.liq_store.specs.Keeping.{IsAtRest}
use Rattle.liq_store.specs.Standing.{OnlyShuts}
use Rattle.liq_store.specs.Leaving.{LeavesBoth}
use Rattle.liq_book.specs.Moments.{HasMoments}
use Rattle.liq_text_lines.specs.Writing.{Writes, WritesPart}
use Rattle.liq_text_lines.specs.declared.stops.Stop.{Stop}
use Rattle.liq_text_scripts.specs.declared.scripts.TheConstants.{SESSIONS}
use Rattle.liq_text_scripts.specs.BySession.{script_of, scripts_of}
use Rattle.liq_text_scripts.specs.Gathering.{EndsAfter}
use Rattle.liq_text_scripts.specs.Output.{served}
use Rattle.liq_word_serve.specs.declared.input.Finish.{Finish}
use Rattle.liq_word_serve.specs.declared.input.Finish.TheVariants as finish
use Rattle.liq_word_serve.specs.declared.input.Finished.{Finished}
use Rattle.liq_word_serve.specs.declared.served.End.{End}
use Rattle.liq_word_serve.specs.declared.served.End.TheVariants as end
use Rattle.liq_word_serve.specs.Answered.{AreServedFrom, AreServedWhole, IsNextOf, LacksMemory}

-- ---- what was read

-- how reading ended
abbrev pub reading_of : Finish → Result (Unit {0}) Stop
reading_of (finish.NotRead why_not) = Err why_not
reading_of _ = Ok tt

-- ---- what was answered

-- All where the output was begun, and none where no store was opened. Where a call met a disk's
-- fault, its session is one of the eight, and its command the next request of that session.
abbrev pub Answers : Finish → Option (ℕ × Command) → List (ℕ × Request) → List Entry → Type 0
Answers finish.All halted asked history = AreServedWhole asked history
Answers finish.WriteFault halted asked history = AreServedWhole asked history
Answers finish.NoMemory halted asked history = LacksMemory (scripts_of asked) history
Answers finish.DiskFault halted asked history =
    IsSomeAnd halted (λ (call : ℕ × Command).
    (1 ≤ call.0) × (call.0 ≤ SESSIONS) × IsNextOf history (Do call.1) (script_of asked call.0))
Answers _ halted asked history = history ≡ []

-- ---- what was written

-- the history, or a part of it where the sink met a fault; else nothing
abbrev pub Written : {K : Type 0} → (K → SinkAt) → Finish → List Entry → K → K → Type 0
Written sink_at finish.All history before now =
    Writes (sink_at before).held (served history) (sink_at now).held
Written sink_at finish.WriteFault history before now =
    WritesPart (sink_at before).held (served history) (sink_at now).held
Written sink_at _ history before now = now ≡ before

-- Before a byte of the history goes out the sink is shown the disks, once, as they are left. Else
-- it is shown nothing.
module _
    {K D : Type 0} (disk_at : D → DiskAt) (sink_at : K → SinkAt)
    (left right : D) (before now : K) where
  abbrev pub IsShown : Finish → Type 0
  IsShown finish.All =
      Notes disk_at (sink_at before).held left right (sink_at before).shown (sink_at now).shown
  IsShown finish.WriteFault =
      Notes disk_at (sink_at before).held left right (sink_at before).shown (sink_at now).shown
  IsShown _ = (sink_at now).shown ≡ (sink_at before).shown

-- Where all was answered nothing is pending on either disk.
module _ {D : Type 0} (disk_at : D → DiskAt) (left right : D) where
  abbrev pub AreAtRest : Finish → Type 0
  AreAtRest finish.All = IsAtRest disk_at left × IsAtRest disk_at right
  AreAtRest finish.WriteFault = IsAtRest disk_at left × IsAtRest disk_at right
  AreAtRest _ = Unit {0}

-- ---- what the disks hold

-- Where both disks tell their bytes, these stand for the state, by the same commands; and they are
-- kept for it, if l and r were.
abbrev pub StayFor : {D : Type 0} → (D → DiskAt) → List ℕ → List ℕ → State → D → D → Type 0
StayFor disk_at l r s left right =
    (a b : List ℕ) → (disk_at left).seen ≡ Some a → (disk_at right).seen ≡ Some b
    → (state_on a b ≡ Ok s) × (commands_on a b ≡ commands_on l r) × (IsKept l r s → IsKept a b s)

module _ {D : Type 0} (disk_at : D → DiskAt) where
  -- They are kept for the state after the history, and the commands that it accepted stand on them.
  -- A call that met a disk's fault was of a command that is accepted there; they are kept for that
  -- state or for the one after this command, which then stands on them too. Where
  -- no store was opened they stand for what they stood for, and stay kept; after a disk's fault
  -- they are, if they were kept, as an opening leaves them.
  abbrev pub HoldsAfter :
      Finish → Option (ℕ × Command) → List Entry → List ℕ → List ℕ → State → D → D → Type 0
  HoldsAfter finish.DiskFault halted history l r start left right =
      let s = state_after start history in
      let held = held_at_end l r start (requests_of history) in
      IsSomeAnd halted (λ (call : ℕ × Command). (ruling s call.1 ≡ Allowed)
      × ((a b : List ℕ) → (disk_at left).seen ≡ Some a → (disk_at right).seen ≡ Some b
      → IsKeptWith a b s held
      ⊎ IsKeptWith a b (after s call.1) (kept_behind held (call.1 ∷ []))))
  HoldsAfter (finish.NotOpened why.DiskFault) halted history l r start left right =
      IsKept l r start
      → (a b : List ℕ) → (disk_at left).seen ≡ Some a → (disk_at right).seen ≡ Some b
      → IsRecovered l r start a b
  HoldsAfter (finish.NotOpened (why.Damaged side damage)) halted history l r start left right = ⊥
  HoldsAfter (finish.NotOpened why.NoMemory) halted history l r start left right =
      StayFor disk_at l r start left right
  HoldsAfter (finish.NotRead why_not) halted history l r start left right =
      StayFor disk_at l r start left right
  HoldsAfter _ halted history l r start left right =
      (a b : List ℕ) → (disk_at left).seen ≡ Some a → (disk_at right).seen ≡ Some b
      → IsKeptWith a b (state_after start history) (held_at_end l r start (requests_of history))

  -- the damage stays
  abbrev pub StaysDamaged : Side → Damage → D → D → Type 0
  StaysDamaged side damage left right =
      (a b : List ℕ) → (disk_at left).seen ≡ Some a → (disk_at right).seen ≡ Some b
      → state_on a b ≡ Err (side, damage)

  -- Over damaged disks nothing is answered. That damage is told, unless reading stopped, or memory
  -- or a disk failed before it was found.
  abbrev pub EndsDamaged : Finish → Side → Damage → D → D → Type 0
  EndsDamaged (finish.NotRead why_not) side damage left right = StaysDamaged side damage left right
  EndsDamaged (finish.NotOpened why.DiskFault) side damage left right = Unit {0}
  EndsDamaged (finish.NotOpened why.NoMemory) side damage left right =
      StaysDamaged side damage left right
  EndsDamaged (finish.NotOpened (why.Damaged which found)) side damage left right =
      (which ≡ side) × (found ≡ damage) × StaysDamaged side damage left right
  EndsDamaged _ side damage left right = ⊥

-- Over damaged disks it comes to such a finish. If nothing was pending on a disk, a stop at any
-- moment leaves of it what one in an opening leaves. Where no disk met a fault each tells its bytes
-- as they were, or with a 0 at the one place that an opening shuts.
pub record LeavesDamaged
    {D : Type 0} (disk_at : D → DiskAt) (old_left old_right : D) (l r : List ℕ) (side : Side)
    (damage : Damage) (how : Finish) (left right : D) : Type 0 where
  pub ends : EndsDamaged disk_at how side damage left right
  pub left_leaves :
      Only l (LeftNow disk_at old_left) → LeavesOnly disk_at old_left left (LeftLeaves l r)
  pub right_leaves :
      Only r (LeftNow disk_at old_right) → LeavesOnly disk_at old_right right (OpenLeaves false r)
  pub shut :
      how ≢ finish.NotOpened why.DiskFault
      → (a b : List ℕ) → (disk_at left).seen ≡ Some a → (disk_at right).seen ≡ Some b
      → OnlyShuts true l a × OnlyShuts false r b

-- where a disk met a fault: in the opening, or at the command that a call was to write
abbrev pub IsFaultAt : Finish → Option (ℕ × Command) → Fault → Type 0
IsFaultAt finish.DiskFault halted fault =
    IsSomeAnd halted (λ (call : ℕ × Command). fault ≡ AtCommand call.1)
IsFaultAt (finish.NotOpened why.DiskFault) halted fault = fault ≡ InOpening
IsFaultAt _ halted fault = fault ≡ NoFault

-- What the lines asked was answered along this history, as far as the finish says. It is what they
-- asked where the source told its bytes, and the history is legal from the state for which the
-- disks stood, where they told theirs. If they were kept for it, and nothing was pending, a stop at
-- any moment leaves what one in a run of the history's requests leaves. What one within a call
-- leaves is kept for the state before that call or after it.
pub record AnswersInput
    {D : Type 0} (disk_at : D → DiskAt) (before unread : Option (List ℕ)) (left right : D)
    (finished : Finished D) (asked : List (ℕ × Request)) (history : List Entry) : Type 0 where
  pub few : length asked ≤ LINES_MOST
  pub read :
      (bytes : List ℕ) → before ≡ Some bytes
      → EndsAfter (reading_of finished.finish) bytes unread asked
  pub fronts : AreServedFrom asked history
  -- the session whose call met a disk's fault, and its command
  pub halted : Option (ℕ × Command)
  pub sessions : All (λ (e : Entry). (1 ≤ e.session) × (e.session ≤ SESSIONS)) history
  pub answers : Answers finished.finish halted asked history
  pub legal :
      (l r : List ℕ) (start : State) → (disk_at left).seen ≡ Some l → (disk_at right).seen ≡ Some r
      → state_on l r ≡ Ok start
      → IsLegal start history
  pub disks :
      (l r : List ℕ) (start : State) → (disk_at left).seen ≡ Some l → (disk_at right).seen ≡ Some r
      → state_on l r ≡ Ok start
      → HoldsAfter disk_at finished.finish halted history l r start finished.left finished.right
  pub past :
      (l r : List ℕ) (start : State) → (disk_at left).seen ≡ Some l → (disk_at right).seen ≡ Some r
      → Only l (LeftNow disk_at left) → Only r (LeftNow disk_at right)
      → state_on l r ≡ Ok start → IsKept l r start
      → LeavesBoth disk_at left right (IsFaultAt finished.finish halted) l r start
      (requests_of history) finished.left finished.right
  pub moments :
      (l r : List ℕ) (start : State) → (disk_at left).seen ≡ Some l → (disk_at right).seen ≡ Some r
      → state_on l r ≡ Ok start → (fault : Fault) → IsFaultAt finished.finish halted fault
      → HasMoments disk_at left right l r start
      (requests_of history ++ map Do (failed_commands fault)) finished.left finished.right
  pub damaged :
      (l r : List ℕ) (side : Side) (damage : Damage)
      → (disk_at left).seen ≡ Some l → (disk_at right).seen ≡ Some r
      → state_on l r ≡ Err (side, damage)
      → LeavesDamaged disk_at left right l r side damage finished.finish
      finished.left finished.right

-- it was, and the history was written, as far as the finish says
pub record ServesInput
    {K D : Type 0} (sink_at : K → SinkAt) (disk_at : D → DiskAt)
    (before unread : Option (List ℕ)) (out_before out_now : K) (left right : D)
    (finished : Finished D) : Type 0 where
  pub asked : List (ℕ × Request)
  pub history : List Entry
  pub answered : AnswersInput disk_at before unread left right finished asked history
  pub written : Written sink_at finished.finish history out_before out_now

-- ---- how it came to its end

-- sessions that were all answered leave the output to be written
abbrev pub IsFinishOf : End → Finish → Type 0
IsFinishOf end.All how = (how ≡ finish.All) ⊎ (how ≡ finish.WriteFault)
IsFinishOf end.NoMemory how = how ≡ finish.NoMemory
IsFinishOf (end.DiskFault halt) how = how ≡ finish.DiskFault

-- The sink's count: it rose where writing met a fault, and else it stays.
abbrev pub WriteCause : Finish → ℕ → ℕ → Type 0
WriteCause finish.WriteFault before after = (before ≤ after) × Rose before after
WriteCause _ before after = after ≡ before

-- The counts of both disks: one rose where the end is a disk's fault, and else both stay.
abbrev pub DiskCause : Finish → Faults → Faults → Type 0
DiskCause finish.DiskFault before after = OneRose before after
DiskCause (finish.NotOpened why_not) before after = CausesWhy why_not before after
DiskCause _ before after = after ≡ before
