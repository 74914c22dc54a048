-- The counts of faults over the parts of a run.
use Rattle.std.proofs.Common.{◌≡◌, ◌≢◌, ℕ, ◌≤◌, Ok, Err, Result, refl, arith}
use Rattle.liq_outside.specs.Faults.{Rose}
use Rattle.liq_word_exit.specs.declared.halts.Halt.{Halt}
use Rattle.liq_word_exit.specs.declared.halts.Halt.TheVariants.{BadLine, ReadFault, WriteFault, DiskFault, Damaged, DamagedInput, NoMemory, Limit, Rotated}
use Rattle.liq_disk_pair.specs.declared.side.Side.{Side}
use Rattle.liq_disk_pair.specs.declared.side.Side.TheVariants.{Left, Right}
use Rattle.liq_store.specs.declared.answers.StoreWhy.{StoreWhy}
use Rattle.liq_store.specs.declared.answers.StoreWhy.TheVariants as why
use Rattle.liq_store.specs.Causes.{CausesWhy, Faults, OneRose}
use Rattle.liq_word_exit.specs.Causes.{DiskCause, ReadCause, WriteCause, LastCause}
use Rattle.liq_word_exit.specs.Statuses.{status_of}
use Rattle.liq_word_exit.specs.Unopened.{halt_of}

-- no other halt is caused by the source
pub read_same : {T : Type 0} (halt : Halt) (before after : ℕ) → (let r : Result T Halt = Err halt in r ≢ Err ReadFault)
    → after ≡ before → ReadCause {T = T} (Err halt) before after
read_same (BadLine n) before after other same = same
read_same ReadFault before after other same = absurd (other refl)
read_same WriteFault before after other same = same
read_same NoMemory before after other same = same
read_same DiskFault before after other same = same
read_same (Damaged side number) before after other same = same
read_same (Limit number) before after other same = same
read_same (Rotated generation) before after other same = same
read_same (DamagedInput number) before after other same = same

-- where the source is not read its count stays
pub unread_causes : (end : Result (Unit {0}) Halt) (count : ℕ) → end ≢ Err ReadFault → ReadCause end count count
unread_causes (Ok done) count other = refl
unread_causes (Err halt) count other = read_same halt count count other refl

-- and none by the sink
pub write_same : {T : Type 0} (halt : Halt) (before after : ℕ) → (let r : Result T Halt = Err halt
    in r ≢ Err WriteFault) → after ≡ before → WriteCause {T = T} (Err halt) before after
write_same (BadLine n) before after other same = same
write_same ReadFault before after other same = same
write_same WriteFault before after other same = absurd (other refl)
write_same NoMemory before after other same = same
write_same DiskFault before after other same = same
write_same (Damaged side number) before after other same = same
write_same (Limit number) before after other same = same
write_same (Rotated generation) before after other same = same
write_same (DamagedInput number) before after other same = same

pub write_no_fewer : {T : Type 0} (end : Result T Halt) (before after : ℕ) → WriteCause end before after
    → before ≤ after
write_no_fewer (Ok x) before after c = omega (arith, c)
write_no_fewer (Err (BadLine n)) before after c = omega (arith, c)
write_no_fewer (Err ReadFault) before after c = omega (arith, c)
write_no_fewer (Err WriteFault) before after c = c.0
write_no_fewer (Err NoMemory) before after c = omega (arith, c)
write_no_fewer (Err DiskFault) before after c = omega (arith, c)
write_no_fewer (Err (Damaged side number)) before after c = omega (arith, c)
write_no_fewer (Err (Limit number)) before after c = omega (arith, c)
write_no_fewer (Err (Rotated generation)) before after c = omega (arith, c)
write_no_fewer (Err (DamagedInput number)) before after c = omega (arith, c)

-- where no store was opened
pub unopened_cause : (why_is : StoreWhy) (before after : Faults) → CausesWhy why_is before after
    → DiskCause {T = Unit {0}} (Err (halt_of why_is)) before after
unopened_cause why.DiskFault before after c = c
unopened_cause (why.Damaged side damage) before after c = c
unopened_cause why.NoMemory before after c = c

-- ---- what a status says

pub six : (side : Side) (number : ℕ) → 6 ≡ status_of (Err (Damaged side number))
six Left number = refl
six Right number = refl

pub source_causes : (end : Result (Unit {0}) Halt) (before after : ℕ) → ReadCause end before after
    → (status_of end ≡ 3 → Rose before after) × ((status_of end ≡ 3 → ⊥) → after ≡ before)
source_causes (Ok done) before after c = (λ h. absurd (omega (arith, h)), λ _. c)
source_causes (Err (BadLine n)) before after c = (λ h. absurd (omega (arith, h)), λ _. c)
source_causes (Err ReadFault) before after c = (λ _. c.1, λ other. absurd (other refl))
source_causes (Err WriteFault) before after c = (λ h. absurd (omega (arith, h)), λ _. c)
source_causes (Err NoMemory) before after c = (λ h. absurd (omega (arith, h)), λ _. c)
source_causes (Err DiskFault) before after c = (λ h. absurd (omega (arith, h)), λ _. c)
source_causes (Err (Damaged Left number)) before after c = (λ h. absurd (omega (arith, h)), λ _. c)
source_causes (Err (Damaged Right number)) before after c = (λ h. absurd (omega (arith, h)), λ _. c)
source_causes (Err (Limit number)) before after c = (λ h. absurd (omega (arith, h)), λ _. c)
source_causes (Err (Rotated generation)) before after c = (λ h. absurd (omega (arith, h)), λ _. c)
source_causes (Err (DamagedInput number)) before after c = (λ h. absurd (omega (arith, h)), λ _. c)

pub sink_causes : (end : Result (Unit {0}) Halt) (before after : ℕ) → LastCause end before after
    → (status_of end ≡ 4 → Rose before after) × (status_of end ≡ 0 → after ≡ before)
sink_causes (Ok done) before after c = (λ h. absurd (omega (arith, h)), λ _. c)
sink_causes (Err (BadLine n)) before after c = (λ h. absurd (omega (arith, h)), λ h. absurd (omega (arith, h)))
sink_causes (Err ReadFault) before after c = (λ h. absurd (omega (arith, h)), λ h. absurd (omega (arith, h)))
sink_causes (Err WriteFault) before after c = (λ _. c.1, λ h. absurd (omega (arith, h)))
sink_causes (Err NoMemory) before after c = (λ h. absurd (omega (arith, h)), λ h. absurd (omega (arith, h)))
sink_causes (Err DiskFault) before after c = (λ h. absurd (omega (arith, h)), λ h. absurd (omega (arith, h)))
sink_causes (Err (Damaged Left number)) before after c = (
  λ h. absurd (omega (arith, h)),
  λ h. absurd (omega (arith, h)),
)
sink_causes (Err (Damaged Right number)) before after c = (
  λ h. absurd (omega (arith, h)),
  λ h. absurd (omega (arith, h)),
)
sink_causes (Err (Limit number)) before after c = (λ h. absurd (omega (arith, h)), λ h. absurd (omega (arith, h)))
sink_causes (Err (Rotated generation)) before after c = (λ h. absurd (omega (arith, h)), λ h. absurd (omega (arith, h)))
sink_causes (Err (DamagedInput number)) before after c = (
  λ h. absurd (omega (arith, h)),
  λ h. absurd (omega (arith, h)),
)

pub disk_causes : (end : Result (Unit {0}) Halt) (before after : Faults) → DiskCause end before after
    → (status_of end ≡ 5 → OneRose before after) × ((status_of end ≡ 5 → ⊥) → after ≡ before)
disk_causes (Ok done) before after c = (λ h. absurd (omega (arith, h)), λ _. c)
disk_causes (Err (BadLine n)) before after c = (λ h. absurd (omega (arith, h)), λ _. c)
disk_causes (Err ReadFault) before after c = (λ h. absurd (omega (arith, h)), λ _. c)
disk_causes (Err WriteFault) before after c = (λ h. absurd (omega (arith, h)), λ _. c)
disk_causes (Err DiskFault) before after c = (λ _. c, λ other. absurd (other refl))
disk_causes (Err (Damaged Left number)) before after c = (λ h. absurd (omega (arith, h)), λ _. c)
disk_causes (Err (Damaged Right number)) before after c = (λ h. absurd (omega (arith, h)), λ _. c)
disk_causes (Err NoMemory) before after c = (λ h. absurd (omega (arith, h)), λ _. c)
disk_causes (Err (Limit number)) before after c = (λ h. absurd (omega (arith, h)), λ _. c)
disk_causes (Err (Rotated generation)) before after c = (λ h. absurd (omega (arith, h)), λ _. c)
disk_causes (Err (DamagedInput number)) before after c = (λ h. absurd (omega (arith, h)), λ _. c)
