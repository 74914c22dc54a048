-- The troves as their calls see them, and what holds of them at all times.
use Rattle.std.specs.Prelude.{◌≡◌, ℕ, ◌≤◌, true, ◌==◌, length, sum_by}
use Rattle.std.specs.List.{AllByRecursion}
use Rattle.std.specs.Map.{values_of}
use Rattle.liq_types.specs.declared.amounts.TheConstants.{LIM, SUM_MOST}
use Rattle.liq_types.specs.declared.figures.Trove.{Trove}
use Rattle.liq_types.specs.Soundness.{is_sound_trove}
use Rattle.liq_types.specs.Tables.{Table}
use Rattle.liq_types.specs.WellFormed.{Ascends}
use Rattle.liq_tables.specs.WithRoom.{WithRoom}
use Rattle.liq_troves.specs.declared.sums.Sums.{Sums}
use Rattle.liq_troves.specs.Rows.{stakes_in}

-- each trove under its account, with the accounts that have room for one, and the sums beside them
pub record Kept : Type 0 where
  pub table : WithRoom Trove
  pub sums : Sums

-- the recorded collateral of all troves
abbrev pub coll_in : Table Trove → ℕ
coll_in troves = sum_by (λ (t : Trove). t.coll) (values_of troves)

-- what holds of a kept trove, by the sums of now
pub record IsKept (sum_coll sum_debt : ℕ) (t : Trove) : Type 0 where
  pub some : 1 ≤ t.stake
  pub within : t.stake ≤ t.coll
  pub mark_coll : t.mark_coll ≤ sum_coll
  pub mark_debt : t.mark_debt ≤ sum_debt

pub record AreKept (troves : Table Trove) (sums : Sums) (count : ℕ) : Type 0 where
  pub ascend : Ascends troves
  pub each : AllByRecursion (λ (row : ℕ × Trove). IsKept sums.coll sums.debt row.1) troves
  pub sum_coll : sums.coll ≤ SUM_MOST
  pub sum_debt : sums.debt ≤ SUM_MOST
  pub stakes : sums.stakes ≡ stakes_in troves
  -- so a stake is at most the collateral
  pub snap : sums.snap_stakes ≤ sums.snap_coll
  pub limit : coll_in troves ≤ LIM
  pub counted : count ≡ length troves

-- rows and sums that some sound image has
pub record AreSoundRows (troves : Table Trove) (sums : Sums) : Type 0 where
  pub ascend : Ascends troves
  pub each : AllByRecursion (λ (row : ℕ × Trove). is_sound_trove sums.coll sums.debt row.1
      ≡ true) troves
  pub sum_coll : sums.coll ≤ SUM_MOST
  pub sum_debt : sums.debt ≤ SUM_MOST
  pub stakes : sums.stakes ≡ stakes_in troves
  pub snap : sums.snap_stakes ≤ sums.snap_coll
  pub snap_both : (sums.snap_stakes == 0) ≡ (sums.snap_coll == 0)
  pub limit : coll_in troves ≤ LIM
