-- The counts of both disks' faults over a call.
use Rattle.std.specs.Prelude.{◌≡◌, ◌⊎◌, ℕ, ◌+◌, ◌≤◌, min, Option, Some, None, Result, Err}
use Rattle.liq_outside.specs.At.{DiskAt}
use Rattle.liq_outside.specs.Faults.{Rose, count_most}
use Rattle.liq_types.specs.declared.replies.Answer.{Answer}
use Rattle.liq_types.specs.declared.replies.Answer.TheVariants as answer
use Rattle.liq_disk_records.specs.declared.answers.AcceptedFault.{AcceptedFault}
use Rattle.liq_disk_records.specs.declared.answers.AcceptedFault.TheVariants as accepted
use Rattle.liq_store.specs.declared.answers.StoreWhy.{StoreWhy}
use Rattle.liq_store.specs.declared.answers.StoreWhy.TheVariants as why
use Rattle.liq_store.specs.Stored.{Stored}

-- the counts of the left and the right disk
pub record Faults : Type 0 where
  pub left : ℕ
  pub right : ℕ

abbrev pub counts_of : {D : Type 0} → (D → DiskAt) → D → D → Faults
counts_of at left right = record { left = (at left).faults; right = (at right).faults }

-- those of a store's disks
abbrev pub faults_of : {D : Type 0} → (D → DiskAt) → Stored D → Faults
faults_of at store = counts_of at store.left store.right

-- neither count of faults fell, and one of them rose
pub record OneRose (before after : Faults) : Type 0 where
  pub left : before.left ≤ after.left
  pub right : before.right ≤ after.right
  pub rose : Rose before.left after.left ⊎ Rose before.right after.right

-- One rose exactly where a disk's fault is the answer, and else both stay.
abbrev pub CausesAnswer : Answer → Faults → Faults → Type 0
CausesAnswer answer.DiskFault before after = OneRose before after
CausesAnswer _ before after = after ≡ before

abbrev pub CausesWhy : StoreWhy → Faults → Faults → Type 0
CausesWhy why.DiskFault before after = OneRose before after
CausesWhy _ before after = after ≡ before

abbrev pub CausesAccepted : {T : Type 0} → Result T AcceptedFault → Faults → Faults → Type 0
CausesAccepted (Err accepted.DiskFault) before after = OneRose before after
CausesAccepted _ before after = after ≡ before

-- both, as far as a count goes
abbrev pub sum_of : Faults → ℕ
sum_of faults = min (faults.left + faults.right) count_most

-- a store that met a fault keeps the sum of its first
abbrev pub stopped_by : Option ℕ → Faults → Option ℕ
stopped_by None faults = Some (sum_of faults)
stopped_by (Some first) faults = Some first

-- what a store carries after a call
abbrev pub stopped_after : Option ℕ → Answer → Faults → Option ℕ
stopped_after stopped answer.DiskFault faults = stopped_by stopped faults
stopped_after stopped _ faults = stopped

-- a store stops so over a call with this answer
abbrev pub StopsAfter : {D : Type 0} → (D → DiskAt) → Stored D → Answer → Stored D → Type 0
StopsAfter at old answer new = new.stopped ≡ stopped_after old.stopped answer (faults_of at new)

abbrev pub stopped_after_reading : {T : Type 0} → Option ℕ → Result T AcceptedFault → Faults
    → Option ℕ
stopped_after_reading stopped (Err accepted.DiskFault) faults = stopped_by stopped faults
stopped_after_reading stopped _ faults = stopped
