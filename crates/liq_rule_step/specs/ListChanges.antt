-- Where a trove stands in the ordered list of a state, and the words from which keys are made.
use Rattle.std.specs.Prelude.{ℕ, Option, Some, None}
use Rattle.liq_types.specs.declared.events.ListChange.{ListChange}
use Rattle.liq_types.specs.declared.events.ListChange.TheVariants.{Put, Gone, Words}
use Rattle.liq_types.specs.State.{State, TroveEntry}
use Rattle.liq_types.specs.Tables.{at}
use Rattle.liq_troves.specs.StakeSums.{key_of, sums_now}

abbrev pub standing : State → ℕ → Option TroveEntry → ListChange
standing s account None = Gone account
standing s account (Some t) = Put (key_of s t) account

-- the account's trove stands there, or is gone
abbrev pub stands : State → ℕ → ListChange
stands s account = standing s account (at s.troves account)

abbrev pub words_in : State → ListChange
words_in s = Words s.snap_stakes s.snap_coll (sums_now s).debt
