-- What a word leaves of both disks, whatever it does.
use Rattle.std.specs.Prelude.{ℕ, List}
use Rattle.liq_outside.specs.At.{DiskAt}
use Rattle.liq_outside.specs.Disk.{LeftNow}
use Rattle.liq_types.specs.declared.requests.Request.{Request}
use Rattle.liq_types.specs.State.{State}
use Rattle.liq_disk_pair.specs.Past.{Fault, KeptAtEnd, LeavesPast, NoFault}
use Rattle.liq_disk_pair.specs.Sides.{on}
use Rattle.liq_store.specs.Keeping.{IsAtRest}

module _ {D : Type 0} (at : D → DiskAt) where
  -- Nothing is pending at its end. After a disk's fault all that a crash may now leave of the one,
  -- beside all of the other, is what `KeptAtEnd` says.
  abbrev pub RestAtEnd : List ℕ → List ℕ → State → List Request → Fault → D → D → Type 0
  RestAtEnd l r start requests NoFault left right =
      IsAtRest at left × IsAtRest at right
  RestAtEnd l r start requests fault left right =
      (a b : List ℕ) → LeftNow at left a → LeftNow at right b
      → KeptAtEnd l r start requests fault a b

  -- It began with these two disks, on which l and r stood, kept for the state `start`, and answered
  -- these requests. It met a fault where P says. All that a crash at some moment since then may
  -- have left of either is of that run.
  pub record LeavesBoth
      (old_left old_right : D) (P : Fault → Type 0) (l r : List ℕ) (start : State)
      (requests : List Request) (left right : D) : Type 0 where
    pub fault : Fault
    pub fault_is : P fault
    pub images :
        LeavesPast at (λ side. (at (on side old_left old_right)).moment)
        l r start requests fault left right
    pub rests : RestAtEnd l r start requests fault left right
