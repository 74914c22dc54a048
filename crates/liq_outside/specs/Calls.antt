use Rattle.std.specs.Prelude.{ℕ, zero, suc, ◌+◌, List, min}
use Rattle.std.specs.List.{Contains}
use Rattle.liq_outside.specs.Faults.{count_most}

-- the calls of an object in memory, which are numbered from 0
pub record Calls : Type 0 where
  -- the numbers of those that fail
  pub failing : List ℕ
  -- the number of the next one
  pub next : ℕ
  -- how many faults there were
  pub faults : ℕ

-- calls of which none was made yet
abbrev pub not_begun : List ℕ → Calls
not_begun failing = record { failing = failing; next = 0; faults = 0 }

-- the next call is one of those that fail
abbrev pub FailsNext : Calls → Type 0
FailsNext calls = Contains calls.failing calls.next

-- One more. A count stays at its last value.
abbrev pub one_more : ℕ → ℕ
one_more n = min (n + 1) count_most

-- a count after so many more calls
abbrev pub after_calls : ℕ → ℕ → ℕ
after_calls zero count = count
after_calls (suc n) count = one_more (after_calls n count)

-- one call later
abbrev pub begun : Calls → Calls
begun calls = record calls { next = one_more calls.next }

-- one fault later
abbrev pub faulted : Calls → Calls
faulted calls = record calls { faults = one_more calls.faults }
