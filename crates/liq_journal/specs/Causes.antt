-- What the count of faults is after a call, by what was answered.
use Rattle.std.specs.Prelude.{◌≡◌, ℕ, ◌≤◌, Result, Ok, Err}
use Rattle.liq_outside.specs.Faults.{Rose}
use Rattle.liq_journal.specs.declared.answers.LookFault.{LookFault}
use Rattle.liq_journal.specs.declared.answers.LookFault.TheVariants as look
use Rattle.liq_journal.specs.declared.answers.OpenWhy.{OpenWhy}
use Rattle.liq_journal.specs.declared.answers.OpenWhy.TheVariants as why

-- a fault was counted
pub record Counted (before after : ℕ) : Type 0 where
  pub later : before ≤ after
  pub rose : Rose before after

-- a look: a fault was counted exactly where it is the answer
abbrev pub CauseOfLook : LookFault → ℕ → ℕ → Type 0
CauseOfLook look.DiskFault before after = Counted before after
CauseOfLook (look.Damaged damage) before after = after ≡ before

-- the same of an opening
abbrev pub CauseOfOpen : OpenWhy → ℕ → ℕ → Type 0
CauseOfOpen why.DiskFault before after = Counted before after
CauseOfOpen (why.Damaged damage) before after = after ≡ before
CauseOfOpen why.Absent before after = after ≡ before
CauseOfOpen why.NoMemory before after = after ≡ before

-- the count over a look: it stays where that succeeded
abbrev pub CountsLook : {T : Type 0} → Result T LookFault → ℕ → ℕ → Type 0
CountsLook (Ok value) before after = after ≡ before
CountsLook (Err fault) before after = CauseOfLook fault before after

-- the count over an opening
abbrev pub CountsOpen : {T : Type 0} → Result T OpenWhy → ℕ → ℕ → Type 0
CountsOpen (Ok value) before after = after ≡ before
CountsOpen (Err fault) before after = CauseOfOpen fault before after
