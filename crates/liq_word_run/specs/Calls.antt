-- One request, as the store of two disks answers it.
use Rattle.std.specs.Prelude.{ℕ, ◌≡◌, ◌⊎◌, ◌↔◌, List, Option, Some, None, IsSome, Result, Ok, Err}
use Rattle.liq_outside.specs.At.{DiskAt}
use Rattle.liq_outside.specs.Disk.{GoesOn}
use Rattle.liq_types.specs.declared.replies.Reply.{Reply}
use Rattle.liq_types.specs.declared.requests.Request.{Request}
use Rattle.liq_types.specs.declared.requests.Request.TheVariants.{Do, Ask}
use Rattle.liq_types.specs.State.{State}
use Rattle.liq_core.specs.Core.{Core, StandsFor}
use Rattle.liq_rule_step.specs.Step.{step}
use Rattle.liq_disk_pair.specs.Kept.{IsKept}
use Rattle.liq_rule_step.specs.Memory.{IsAccepted, TakesMemory}
use Rattle.liq_store.specs.Stored.{Stored}
use Rattle.liq_word_exit.specs.declared.halts.Halt.{Halt}
use Rattle.liq_word_exit.specs.declared.halts.Halt.TheVariants.{DiskFault, NoMemory, Rotated}

abbrev pub IsCommand : Request → Type 0
IsCommand (Do command) = Unit {0}
IsCommand (Ask query) = ⊥

-- The step was made; or there was no memory, or a disk met a fault at a command that is accepted:
-- no step was made then.
abbrev pub Calls : State → Request → Result Reply Halt → Core → Type 0
Calls s request (Ok reply) core = StandsFor core (step s request).0 × ((step s request).1 ≡ reply)
Calls s request (Err NoMemory) core = StandsFor core s × TakesMemory s request
Calls s request (Err DiskFault) core = StandsFor core s × IsAccepted s request
Calls s request (Err _) core = ⊥

-- a store is stopped by a disk's fault alone, and nothing halts for the journal's generation
abbrev pub IsStopped : {T : Type 0} → Result T Halt → Option ℕ → Type 0
IsStopped (Err DiskFault) stopped = (sum : ℕ) × (stopped ≡ Some sum)
IsStopped (Err (Rotated generation)) stopped = ⊥
IsStopped _ stopped = stopped ≡ None

module _ {D : Type 0} (at : D → DiskAt) where
  -- where both disks tell their bytes, these are kept for the state before the request or after it
  abbrev pub KeepsAround : D → D → State → Request → Type 0
  KeepsAround left right s request =
      (l r : List ℕ) → (at left).seen ≡ Some l → (at right).seen ≡ Some r
      → IsKept l r s ⊎ IsKept l r (step s request).0

-- For both disks of a store time goes on, and what a crash may have left at a past moment stays
-- what it was. Each tells its bytes where it told them before, and there alone.
pub record GoOn {D : Type 0} (at : D → DiskAt) (old new : Stored D) : Type 0 where
  pub left : GoesOn at old.left new.left
  pub right : GoesOn at old.right new.right
  pub left_telling : IsSome (at new.left).seen ↔ IsSome (at old.left).seen
  pub right_telling : IsSome (at new.right).seen ↔ IsSome (at old.right).seen
