-- A store in the midst of a run.
use Rattle.std.specs.Prelude.{◌≡◌, ℕ, ◌≤◌, List, Some, None, IsSome}
use Rattle.liq_types.specs.declared.requests.Request.{Request}
use Rattle.liq_types.specs.State.{State}
use Rattle.liq_outside.specs.At.{DiskAt}
use Rattle.liq_core.specs.Core.{StandsFor}
use Rattle.liq_rule_step.specs.Step.{run}
use Rattle.liq_disk_pair.specs.declared.side.Side.{Side}
use Rattle.liq_disk_pair.specs.Kept.{IsKept}
use Rattle.liq_disk_pair.specs.Pair.{commands_on}
use Rattle.liq_disk_pair.specs.Past.{IsAsItStood, IsOfRun, LeavesPast, NoFault, held_at_end}
use Rattle.liq_disk_pair.specs.Sides.{on, other}
use Rattle.liq_store.specs.Stored.{Stored, disk_beside}

-- The store answered these requests and met no fault, and both its disks tell their bytes. It began
-- with l and r on them, kept for the state `start`; since these moments each image of either disk
-- is one of the run. So is what is on the disk beside, and so it is with another byte at place 0,
-- where no shut gate is. The commands that were accepted stand on them.
pub record Past {D : Type 0} (at : D → DiskAt) (since : Side → ℕ) (l r : List ℕ) (start : State)
    (requests : List Request) (store : Stored D) : Type 0 where
  pub kept : IsKept l r start
  pub going : store.stopped ≡ None
  pub stands : StandsFor store.core (run start requests).0
  pub left_tells : IsSome (at store.left).seen
  pub right_tells : IsSome (at store.right).seen
  pub later : (side : Side) → since side ≤ (at (on side store.left store.right)).moment
  pub leaves : LeavesPast at since l r start requests NoFault store.left store.right
  pub holds :
      (a b : List ℕ) → (at store.left).seen ≡ Some a → (at store.right).seen ≡ Some b
      → commands_on a b ≡ held_at_end l r start requests
  pub aside :
      (held image : List ℕ) → (at (disk_beside store)).seen ≡ Some held → IsAsItStood held image
      → IsOfRun (other store.side) l r start requests NoFault image
