-- What serving scripts leaves.
use Rattle.std.specs.Prelude.{ℕ, ◌≡◌, ◌≤◌, ◌<◌, ◌+◌, List, length, slice_index_or}
use Rattle.std.specs.Prelude.{All, Contains, Some, None, sum_by}
use Rattle.liq_outside.specs.At.{DiskAt}
use Rattle.liq_outside.specs.Disk.{LeftNow}
use Rattle.liq_types.specs.declared.requests.Request.{Request}
use Rattle.liq_types.specs.State.{State}
use Rattle.liq_types.specs.declared.entries.Entry.{Entry}
use Rattle.liq_rule_step.specs.History.{IsLegal, requests_of, state_after}
use Rattle.liq_rule_step.specs.Memory.{IsAccepted}
use Rattle.liq_disk_pair.specs.declared.side.Side.{Side}
use Rattle.liq_disk_pair.specs.Kept.{IsSettledFor}
use Rattle.liq_store.specs.Keeping.{IsAtRest}
use Rattle.liq_store.specs.Stored.{Stored}
use Rattle.liq_sessions.specs.declared.script.Script.{Script}
use Rattle.liq_book.specs.Booked.{CausesHalt, IsKeptByStep}
use Rattle.liq_book.specs.declared.items.TheConstants.{ENTRIES_MOST}
use Rattle.liq_book.specs.Moments.{KeepsBetween, tried}
use Rattle.liq_book.specs.Origin.{GoesOnFrom, TellsList, faults_at}
use Rattle.liq_book.specs.Past.{LeavesFrom}
use Rattle.liq_word_serve.specs.declared.served.End.{End}
use Rattle.liq_word_serve.specs.declared.served.End.TheVariants as end
use Rattle.liq_word_serve.specs.declared.served.Served.{Served}
use Rattle.liq_word_serve.specs.Answered.{IsNextOf, IsServedFrom, IsServedWhole, LacksMemory}
use Rattle.liq_word_serve.specs.Ends.{halt_of}

-- scripts of the sessions from 1 on
abbrev pub AreNumbered : List Script → Type 0
AreNumbered scripts =
    (k : ℕ) (d : Script) → k < length scripts → (slice_index_or scripts k d).session ≡ k + 1

-- Scripts that are served over a store: one to eight, of the sessions from 1 on, whose requests all
-- have room in the book. The store goes on, and tells its list.
pub record IsServable {D : Type 0} (scripts : List Script) (store : Stored D) : Type 0 where
  pub some : 1 ≤ length scripts
  pub few : length scripts ≤ 8
  pub numbered : AreNumbered scripts
  pub total : sum_by (λ (script : Script). length script.requests) scripts ≤ ENTRIES_MOST
  pub going : store.stopped ≡ None
  pub listed : TellsList store

-- ---- disks at the end

module _ {D : Type 0} (at : D → DiskAt) where
  -- Nothing is pending, and what both disks tell is settled for the state.
  pub record AreSettled (s : State) (left right : D) : Type 0 where
    pub left_rests : IsAtRest at left
    pub right_rests : IsAtRest at right
    pub side : Side
    pub settled :
        (l r : List ℕ) → (at left).seen ≡ Some l → (at right).seen ≡ Some r
        → IsSettledFor side l r s

  -- What both disks tell, and all that a crash may now leave of the one beside all of the other, is
  -- kept for the state or for the one after this request.
  abbrev pub AreKeptAround : State → Request → D → D → Type 0
  AreKeptAround s request left right =
      (l r : List ℕ) → (at left).seen ≡ Some l → (at right).seen ≡ Some r
      → IsKeptByStep s request l r
      × ((a b : List ℕ) → LeftNow at left a → LeftNow at right b → IsKeptByStep s request a b)

  -- Settled; or, after a fault, kept with one request more, which is the next one of the session
  -- whose call met it, and a command that the rules accept there.
  abbrev pub LeavesDisks : List Script → List Entry → State → End → D → D → Type 0
  LeavesDisks scripts entries s end.All left right = AreSettled s left right
  LeavesDisks scripts entries s end.NoMemory left right = AreSettled s left right
  LeavesDisks scripts entries s (end.DiskFault halt) left right =
      ((script : Script) × Contains scripts script × (script.session ≡ halt.session)
      × IsNextOf entries halt.request script)
      × IsAccepted s halt.request × AreKeptAround s halt.request left right

-- What became of the disks since the service began. A count of faults rose exactly where a call met
-- the fault; each tells its bytes exactly if it told them then, time went on, and what a stop may
-- have left of them is of a run of the history's requests. What one within a call may have left is
-- kept for the state before that call or after it.
pub record HasGoneOn
    {D : Type 0} (at : D → DiskAt) (base : State) (left_origin right_origin : DiskAt)
    (served : Served D) : Type 0 where
  pub cause :
      CausesHalt (halt_of served.end) (faults_at left_origin right_origin)
      (record { left = (at served.left).faults; right = (at served.right).faults })
  pub left_time : GoesOnFrom left_origin (at served.left)
  pub right_time : GoesOnFrom right_origin (at served.right)
  pub past :
      LeavesFrom at left_origin right_origin base (requests_of served.history)
      (halt_of served.end) served.left served.right
  pub between :
      KeepsBetween at left_origin right_origin base
      (tried (requests_of served.history) (halt_of served.end)) served.left served.right

-- The history is legal from the state with which the service began. Each session's entries in it
-- are the first requests of its script, in order, and all of them where the service ended with all;
-- no other session is in it. It ended so, or by a fault, unless memory was wanted.
pub record Serves
    {D : Type 0} (at : D → DiskAt) (base : State) (left_origin right_origin : DiskAt)
    (scripts : List Script) (served : Served D) : Type 0 where
  pub legal : IsLegal base served.history
  pub fronts : All (IsServedFrom served.history) scripts
  pub whole : served.end ≡ end.All → All (IsServedWhole served.history) scripts
  pub memory : served.end ≡ end.NoMemory → LacksMemory scripts served.history
  pub sessions : All (λ e. (1 ≤ e.session) × (e.session ≤ length scripts)) served.history
  pub disks :
      LeavesDisks at scripts served.history (state_after base served.history) served.end
      served.left served.right
  pub since : HasGoneOn at base left_origin right_origin served
