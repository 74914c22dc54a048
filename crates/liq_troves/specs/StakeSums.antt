-- Sums per unit of stake over the list of redistributions, and the troves of a state as they are
-- kept.
use Rattle.std.specs.Prelude.{ℕ, ◌+◌, ◌*◌, ◌≤◌, ◌<◌, Option, List, fold, take, length, sum_by, count_by, nat_lt, ℤ}
pub use Rattle.liq_troves.specs.Rows.{pending}
use Rattle.liq_types.specs.declared.amounts.TheConstants.{ONE}
use Rattle.liq_types.specs.declared.figures.Trove.{Trove}
use Rattle.liq_types.specs.State.{State, StakeSums, Mark, AtStart, After, TroveEntry, Redistribution}
use Rattle.liq_types.specs.Tables.{Table, map_rows}
use Rattle.liq_types.specs.Totals.{stakes_of}
use Rattle.liq_troves.specs.declared.sums.Sums.{Sums}
use Rattle.liq_troves.specs.Rows.{entire_by, entire_in, key_by, growth}

-- ---- sums along the list

-- what a redistribution gives to each unit of stake, over ONE
abbrev pub coll_growth : Redistribution → ℕ
coll_growth r = growth r.coll r.stakes

abbrev pub debt_growth : Redistribution → ℕ
debt_growth r = growth r.debt r.stakes

-- the sums after so many redistributions
abbrev pub sums_after : State → ℕ → StakeSums
sums_after s items =
    record {
      coll = s.start.sum_coll + sum_by coll_growth (take items s.redistributions);
      debt = s.start.sum_debt + sum_by debt_growth (take items s.redistributions);
    }

abbrev pub sums_now : State → StakeSums
sums_now s = sums_after s (length s.redistributions)

-- the sums at a trove's last own operation
abbrev pub sums_at : State → Mark StakeSums → StakeSums
sums_at s (AtStart fields) = fields
sums_at s (After items) = sums_after s items

-- ---- as they are kept

abbrev pub sums_words : State → Sums
sums_words s =
    record {
      coll = (sums_now s).coll;
      debt = (sums_now s).debt;
      stakes = stakes_of s;
      snap_stakes = s.snap_stakes;
      snap_coll = s.snap_coll;
    }

abbrev pub trove_row : State → TroveEntry → Trove
trove_row s t =
    let mark = sums_at s t.mark in
    record {
      coll = t.coll;
      debt = t.debt;
      stake = t.stake;
      mark_coll = mark.coll;
      mark_debt = mark.debt;
    }

abbrev pub trove_rows : State → Table Trove
trove_rows s = map_rows (trove_row s) s.troves

-- ---- read off the rows

-- collateral and debt: what is recorded and what is pending
abbrev pub entire : State → TroveEntry → ℕ × ℕ
entire s t = entire_by (sums_words s) (trove_row s t)

-- entire amounts of an account, if it has a trove
abbrev pub entire_of : State → ℕ → Option (ℕ × ℕ)
entire_of s account = entire_in (sums_words s) (trove_rows s) account

abbrev pub pending_coll : State → TroveEntry → ℕ
pending_coll s t = pending t.stake (sums_now s).coll (sums_at s t.mark).coll

abbrev pub pending_debt : State → TroveEntry → ℕ
pending_debt s t = pending t.stake (sums_now s).debt (sums_at s t.mark).debt

abbrev pub key_of : State → TroveEntry → ℤ
key_of s t = key_by (trove_row s t)

-- ---- exactly

-- What a stake gets exactly of a list of redistributions, as a fraction; the amount is the
-- collateral or the debt of each.
abbrev pub exact_part : (Redistribution → ℕ) → ℕ → List Redistribution → ℕ × ℕ
exact_part amount stake rs =
    fold (λ (part : ℕ × ℕ) (r : Redistribution). (
      part.0 * r.stakes + amount r * stake * part.1,
      part.1 * r.stakes,
    )) (0, 1) rs

-- how many redistributions there were of more than nothing
abbrev pub somethings : (Redistribution → ℕ) → List Redistribution → ℕ
somethings amount rs = count_by (λ (r : Redistribution). nat_lt 0 (amount r)) rs

-- what is pending is at most the exact part, and short of it by less than 1 and the stake's ONEth
-- for each redistribution
pub record IsShortOf (pending stake items : ℕ) (exact : ℕ × ℕ) : Type 0 where
  pub at_most : pending * exact.1 ≤ exact.0
  pub short : exact.0 * ONE < (pending * ONE + ONE + items * stake) * exact.1
