-- What stands of the troves in every sound state, and what each change makes of them: rows and sums
-- beside the two pools that hold the collateral and the debt of all troves.
use Rattle.std.specs.Prelude.{◌≡◌, ℕ, ◌+◌, ◌-◌, ◌*◌, ◌≤◌, List, Option, Some, None, sum_by}
use Rattle.std.specs.List.{AllByRecursion}
use Rattle.std.specs.Map.{values_of}
use Rattle.liq_types.specs.declared.amounts.TheConstants.{ONE, SUM_MOST, RESERVE, MIN_NET}
use Rattle.liq_types.specs.declared.figures.Trove.{Trove}
pub use Rattle.liq_types.specs.Soundness.{coll_due, debt_due}
use Rattle.liq_types.specs.State.{State, Redistribution}
use Rattle.liq_types.specs.Tables.{Table, at, without}
use Rattle.liq_types.specs.WellFormed.{Ascends}
use Rattle.liq_troves.specs.declared.sums.Sums.{Sums}
use Rattle.liq_troves.specs.Rows.{pending, stakes_in, beside, set_in, sums_spread, sums_snapped}
use Rattle.liq_troves.specs.StakeSums.{sums_words, trove_rows}

-- the active pool holds what is recorded of the troves, the default pool what is pending
pub record Books : Type 0 where
  pub sums : Sums
  pub troves : Table Trove
  pub active_coll : ℕ
  pub active_debt : ℕ
  pub default_coll : ℕ
  pub default_debt : ℕ

abbrev pub books_of : State → Books
books_of s =
    record {
      sums = sums_words s;
      troves = trove_rows s;
      active_coll = s.active_coll;
      active_debt = s.active_debt;
      default_coll = s.default_coll;
      default_debt = s.default_debt;
    }

-- ---- what stands

-- what stands of a trove, by the sums of now
pub record TroveStands (sum_coll sum_debt : ℕ) (t : Trove) : Type 0 where
  pub some : 1 ≤ t.stake
  pub within : t.stake ≤ t.coll
  pub debt : RESERVE + MIN_NET ≤ t.debt
  pub mark_coll : t.mark_coll ≤ sum_coll
  pub mark_debt : t.mark_debt ≤ sum_debt

-- a part of each, added up over troves
abbrev pub added_up : (Trove → ℕ) → Table Trove → ℕ
added_up f troves = sum_by f (values_of troves)

pub record TrovesStand (b : Books) : Type 0 where
  pub ascend : Ascends b.troves
  pub each : AllByRecursion (λ (row : ℕ × Trove). TroveStands b.sums.coll b.sums.debt row.1)
      b.troves
  pub sum_coll : b.sums.coll ≤ SUM_MOST
  pub sum_debt : b.sums.debt ≤ SUM_MOST
  pub stakes : b.sums.stakes ≡ stakes_in b.troves
  pub active_coll : b.active_coll ≡ added_up (λ t. t.coll) b.troves
  pub active_debt : b.active_debt ≡ added_up (λ t. t.debt) b.troves
  -- a snapshot has both of its words or none
  pub snap : b.sums.snap_stakes ≤ b.sums.snap_coll
  pub snap_none : b.sums.snap_stakes ≡ 0 → b.sums.snap_coll ≡ 0
  -- what is pending is in the default pool
  pub due_coll : added_up (coll_due b.sums.coll) b.troves ≤ b.default_coll * ONE
  pub due_debt : added_up (debt_due b.sums.debt) b.troves ≤ b.default_debt * ONE

-- ---- what changes them

abbrev pub lifted_row : Books → ℕ → Option Trove → Books
lifted_row b account None = b
lifted_row b account (Some t) =
    record {
      sums = beside b.sums (without b.troves account);
      troves = without b.troves account;
      active_coll = b.active_coll - t.coll;
      active_debt = b.active_debt - t.debt;
      default_coll = b.default_coll - pending t.stake b.sums.coll t.mark_coll;
      default_debt = b.default_debt - pending t.stake b.sums.debt t.mark_debt;
    }

-- a trove leaves
abbrev pub lift : Books → ℕ → Books
lift b account = lifted_row b account (at b.troves account)

-- a trove stands with these amounts
abbrev pub place : Books → ℕ → ℕ → ℕ → Books
place b account coll debt =
    record b {
      sums = beside b.sums (set_in b.sums b.troves account coll debt);
      troves = set_in b.sums b.troves account coll debt;
      active_coll = b.active_coll + coll;
      active_debt = b.active_debt + debt;
    }

-- all troves take over collateral and debt
abbrev pub spread : Books → ℕ → ℕ → Books
spread b coll debt =
    record b {
      sums = sums_spread b.sums coll debt;
      default_coll = b.default_coll + coll;
      default_debt = b.default_debt + debt;
    }

-- stakes are made anew from now on
abbrev pub snap : Books → Books
snap b = record b { sums = sums_snapped b.sums (b.active_coll + b.default_coll) }

-- ---- along the list

-- every redistribution went to some stake
abbrev pub HadStakes : List Redistribution → Type 0
HadStakes rs = AllByRecursion (λ (r : Redistribution). 1 ≤ r.stakes) rs
