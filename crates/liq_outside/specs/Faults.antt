-- Counts of faults.
use Rattle.std.specs.Prelude.{ℕ, ◌≡◌, ◌<◌, ◌≤◌, ◌⊎◌, Result, OnOk, OnErr}

-- the last value of a count, which has 64 bits
abbrev pub count_most : ℕ
count_most = 18446744073709551615

-- a fault was counted, as far as the count goes
abbrev pub Rose : ℕ → ℕ → Type 0
Rose before after = (before < after) ⊎ (count_most ≤ after)

-- The count over one call: it stays where the call succeeded, and rose where it failed.
pub record HasCause {T E : Type 0} (before after : ℕ) (result : Result T E) : Type 0 where
  pub later : before ≤ after
  pub ok : OnOk result (after ≡ before)
  pub failed : OnErr result (Rose before after)
