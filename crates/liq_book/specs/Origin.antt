-- Where a book begins: a state, and two disks at a moment.
use Rattle.std.specs.Prelude.{ℕ, ◌≡◌, ◌≤◌, ◌↔◌, List, None, IsSome}
use Rattle.liq_types.specs.State.{State, opening}
use Rattle.liq_outside.specs.At.{DiskAt}
use Rattle.liq_core.specs.Core.{StandsFor}
use Rattle.liq_rule_step.specs.View.{all_followed, view_of}
use Rattle.liq_store.specs.Causes.{Faults}
use Rattle.liq_store.specs.Stored.{Stored}

-- What holds of a disk from there on: it tells its bytes exactly if it told them then, time goes
-- on, and what a crash may have left up to that moment stays what it was.
pub record GoesOnFrom (origin now : DiskAt) : Type 0 where
  pub telling : IsSome now.seen ↔ IsSome origin.seen
  pub later : origin.moment ≤ now.moment
  pub past :
      (k : ℕ) (image : List ℕ) → k ≤ origin.moment → now.left_at k image → origin.left_at k image
  pub kept :
      (k : ℕ) (image : List ℕ) → k ≤ origin.moment → origin.left_at k image → now.left_at k image

-- the disk is as it was then
pub record IsDiskAt (origin now : DiskAt) : Type 0 where
  pub seen : now.seen ≡ origin.seen
  pub faults : now.faults ≡ origin.faults
  pub moment : now.moment ≡ origin.moment
  pub time : GoesOnFrom origin now

-- the store is as it was there
pub record IsAtOrigin
    {D : Type 0} (at : D → DiskAt) (base : State) (left_origin right_origin : DiskAt)
    (store : Stored D) : Type 0 where
  pub state : StandsFor store.core base
  pub left : IsDiskAt left_origin (at store.left)
  pub right : IsDiskAt right_origin (at store.right)

abbrev pub faults_at : DiskAt → DiskAt → Faults
faults_at left right = record { left = left.faults; right = right.faults }

-- a disk of which nothing is told
abbrev pub nowhere : DiskAt
nowhere = record { seen = None; moment = 0; left_at = λ k image. Unit {0}; faults = 0 }

-- whoever has seen nothing and follows the store's changes has the view of each state for which it
-- stands
abbrev pub TellsList : {D : Type 0} → Stored D → Type 0
TellsList store =
    (s : State) → StandsFor store.core s
    → all_followed (view_of opening) store.changes ≡ view_of s
