-- What a stop in the midst of a run keeps: all that was answered by then.
use Rattle.std.specs.Prelude.{ℕ, ◌≡◌, ◌⊎◌, ◌≤◌, ◌+◌, List, [], ◌∷◌, ◌++◌, length, take, Option, Some}
use Rattle.liq_outside.specs.At.{DiskAt}
use Rattle.liq_outside.specs.declared.showing.Showing.{Showing}
use Rattle.liq_outside.specs.Disk.{LeftNow, Only}
use Rattle.liq_outside.specs.Showings.{AllFrom, LeavesBetween, first_of, shown_as}
use Rattle.liq_types.specs.declared.requests.Command.{Command}
use Rattle.liq_types.specs.declared.requests.Request.{Request}
use Rattle.liq_types.specs.State.{State}
use Rattle.liq_rule_step.specs.Step.{Allowed, accepted, after, ruling, run}
use Rattle.liq_disk_pair.specs.Commands.{kept_behind}
use Rattle.liq_disk_pair.specs.Kept.{IsKept, IsKeptWith}
use Rattle.liq_disk_pair.specs.Pair.{commands_on}
use Rattle.liq_disk_pair.specs.Past.{AtCommand, Fault, LeavesPast}
use Rattle.liq_disk_pair.specs.Sides.{on}
use Rattle.liq_disk_pair.specs.Unfinished.{IsRecovered}
use Rattle.liq_word_exit.specs.Output.{lines}

-- A run from this state, with these commands on its disks, answered these requests, and met this
-- fault. Its sink held so many bytes before it.
module _ (begun : List Command) (start : State) (requests : List Request) (fault : Fault)
    (before : ℕ) where
  -- the commands on its disks behind the first n
  abbrev pub held_behind : ℕ → List Command
  held_behind n = kept_behind begun (accepted start (take n requests))

  -- They are kept for the state after the first n, with the commands by then. Where these are all,
  -- they may be so for it after the command at which a disk met a fault, with this one more.
  abbrev pub IsKeptBehind : ℕ → List ℕ → List ℕ → Type 0
  IsKeptBehind n a b = let s = (run start requests).0 in
      IsKeptWith a b (run start (take n requests)).0 (held_behind n)
      ⊎ ((n ≡ length requests) × ((c : Command) × (fault ≡ AtCommand c) × (ruling s c ≡ Allowed)
      × IsKeptWith a b (after s c) (kept_behind (held_behind n) (c ∷ []))))

  -- Two disks of which a stop leaves this, while the sink holds so many bytes, have all that was
  -- answered by then: they are kept behind the first n requests, and these bytes answer none behind
  -- those; or those are all.
  abbrev pub HoldsAnswered : ℕ → List ℕ → List ℕ → Type 0
  HoldsAnswered held a b = (n : ℕ) × (n ≤ length requests)
      × ((held ≤ before + length (lines start (take n requests))) ⊎ (n ≡ length requests))
      × IsKeptBehind n a b

-- Whatever a stop left within a run has all that was answered by then. It began with two disks, on
-- which l and r stood, for the state `start`, and with these bytes in its sink, that had been shown
-- this; now it has ended.
module _ {D : Type 0} (at : D → DiskAt) (l r : List ℕ) (start : State) (requests : List Request)
    (fault : Fault) (old_left old_right : D) (before : List ℕ) (earlier : List Showing) where
  pub record KeepsAnswered (left right : D) (now : List ℕ) (all : List Showing) : Type 0 where
    -- what the sink was shown in it
    pub since : List Showing
    pub are : all ≡ earlier ++ since
    -- by the first showing no reply is out
    pub begun : (requests ≡ [])
        ⊎ ((first_of since (shown_as at now left right)).held ≤ length before)
    -- Up to it a stop leaves what an opening recovers, of disks that were kept, and on which
    -- nothing was pending.
    pub opening : Only l (LeftNow at old_left) → Only r (LeftNow at old_right) → IsKept l r start
        → LeavesBetween at left right (λ held a b. IsRecovered l r start a b)
        (shown_as at before old_left old_right) (first_of since (shown_as at now left right))
    -- From there on, and up to the end, the disks have what was answered: whatever they were
    -- before.
    pub each : AllFrom
        (LeavesBetween at left right (HoldsAnswered (commands_on l r) start requests fault
        (length before)))
        (since ++ shown_as at now left right ∷ [])
    -- Nothing was pending at the first showing. From there on each image of either disk is one of
    -- the run.
    pub rested : (first : Showing) (later : List Showing) → since ≡ first ∷ later → (a b : List ℕ)
        × Only a ((at left).left_at first.left) × Only b ((at right).left_at first.right)
        × IsKeptWith a b start (commands_on l r) × LeavesPast at (λ side. on side first.left first.right) a b start
        requests fault left right

-- where a sink tells what it held before and now, and what it was shown by then, this holds of it
abbrev pub Told : Option (List ℕ) → Option (List Showing) → Option (List ℕ) → Option (List Showing)
    → (List ℕ → List Showing → List ℕ → List Showing → Type 0) → Type 0
Told held shown held_now shown_now P = (before : List ℕ) (earlier : List Showing)
    (now : List ℕ) (all : List Showing) → held ≡ Some before → shown ≡ Some earlier
    → held_now ≡ Some now → shown_now ≡ Some all → P before earlier now all
