-- Two disks with which nothing is wrong, and the store that begins on them.
use Rattle.std.specs.Prelude.{◌≡◌, ◌⊎◌, ◌<◌, ℕ, List, [], Some, IfSome, Bool}
use Rattle.liq_outside.specs.At.{DiskAt}
use Rattle.liq_journal.specs.Called.{Lasts}
use Rattle.liq_journal.specs.Causes.{Counted}
use Rattle.liq_journal.specs.Crash.{CrashOfCreate, ReadsOfCreate}
use Rattle.liq_journal.specs.Opened.{IsUnshut}
use Rattle.liq_journal.specs.Settled.{IsSettled}
use Rattle.liq_disk_pair.specs.Pair.{state_on}
use Rattle.liq_store.specs.Causes.{counts_of}
use Rattle.liq_store.specs.Judging.{disk_of}
use Rattle.liq_store.specs.Keeping.{IsAtRest}
use Rattle.liq_store.specs.Standing.{IsCounted, IsHeldOn}
use Rattle.liq_store.specs.declared.answers.StoreFault.{StoreFault}
use Rattle.liq_store.specs.declared.answers.StoreWhy.{StoreWhy}
use Rattle.liq_store.specs.declared.answers.StoreWhy.TheVariants as why
use Rattle.liq_store.specs.declared.standing.Stood.{Stood}
use Rattle.liq_store.specs.declared.standing.Stood.TheVariants.{Nothing, Holding}

-- the disk holds what it was found to be, and nothing behind that
abbrev pub IsStanding : {D : Type 0} → Bool → List ℕ → Stood D → Type 0
IsStanding odd now (Nothing disk) = IsUnshut now → ⊥
IsStanding odd now (Holding journal core) =
    IsSettled journal.generation journal.start journal.count now
    × IsHeldOn odd now journal.generation core

-- a disk that was opened and tested whole
pub record IsStoodOn {D : Type 0} (at : D → DiskAt) (odd : Bool) (stood : Stood D) : Type 0 where
  pub counted : IsCounted odd stood
  pub rests : IsAtRest at (disk_of stood)
  pub told : IfSome (at (disk_of stood)).seen (λ now. IsStanding odd now stood)

-- no journal is open on it, or one of a smaller generation
abbrev pub IsEarlier : {D : Type 0} → ℕ → Stood D → Type 0
IsEarlier generation (Nothing disk) = Unit {0}
IsEarlier generation (Holding journal core) = journal.generation < generation

abbrev pub IsNothing : {D : Type 0} → Stood D → Type 0
IsNothing (Nothing disk) = Unit {0}
IsNothing (Holding journal core) = ⊥

-- the first generation was created on the disk, or a fault was met at it
pub record Creates {D : Type 0} (at : D → DiskAt) (old new : D) : Type 0 where
  pub crash : CrashOfCreate at old new 1 []
  pub reads : ReadsOfCreate at old new 1 []
  pub lasts : Lasts at old new

-- The left disk stays, or where both hold nothing the first generation is created on it.
abbrev pub BeginsLeft : {D : Type 0} → (D → DiskAt) → Stood D → Stood D → D → Type 0
BeginsLeft at left right now =
    (now ≡ disk_of left) ⊎ (IsNothing left × IsNothing right × Creates at (disk_of left) now)

-- no device call failed, and two disks stand for what they stood for
pub record StandsStill {D : Type 0} (at : D → DiskAt)
    (left right now_left now_right : D) : Type 0 where
  pub counts : counts_of at now_left now_right ≡ counts_of at left right
  pub stays :
      (l r a b : List ℕ)
      → (at left).seen ≡ Some l → (at right).seen ≡ Some r
      → (at now_left).seen ≡ Some a → (at now_right).seen ≡ Some b
      → state_on a b ≡ state_on l r

-- Why no store begins: a fault was met at the first generation, or there is no memory for what
-- others follow from nothing.
abbrev pub IsUnbegunBy : {D : Type 0} → (D → DiskAt)
    → (left right : D) → StoreFault D → StoreWhy → Type 0
IsUnbegunBy at left right e why.DiskFault = Counted (at left).faults (at e.left).faults
IsUnbegunBy at left right e (why.Damaged side damage) = ⊥
IsUnbegunBy at left right e why.NoMemory = StandsStill at left right e.left e.right

abbrev pub IsUnbegun : {D : Type 0} → (D → DiskAt) → (left right : D) → StoreFault D → Type 0
IsUnbegun at left right e = IsUnbegunBy at left right e e.why
