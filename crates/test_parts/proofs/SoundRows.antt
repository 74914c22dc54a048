-- Rows are sound by their sums where the sums pass a test.
use Rattle.std.proofs.Common.{◌≡◌, ℕ, Bool, true}
use Rattle.std.specs.Prelude.{◌&&◌, ◌==◌, nat_le}
use Rattle.std.specs.Cmp.{booleans_Decides}
use Rattle.std.specs.List.{AllByRecursion}
use Rattle.std.proofs.Math.Bool.{beq}
use Rattle.std.proofs.lemmas.Bool.{and_parts, eqb-true, leb-true}
use Rattle.liq_types.specs.declared.amounts.TheConstants.{LIM, SUM_MOST}
use Rattle.liq_types.specs.declared.figures.Trove.{Trove}
use Rattle.liq_types.specs.Soundness.{is_sound_trove}
use Rattle.liq_types.specs.Tables.{Table}
use Rattle.liq_types.specs.WellFormed.{Ascends}
use Rattle.liq_troves.specs.declared.sums.Sums.{Sums}
use Rattle.liq_troves.specs.Kept.{AreSoundRows, coll_in}
use Rattle.liq_troves.specs.Rows.{stakes_in}

-- the sums are within their limits, and are those of the rows
abbrev are_sums_of : Table Trove → Sums → Bool
are_sums_of troves sums =
    nat_le sums.coll SUM_MOST
    && (nat_le sums.debt SUM_MOST
    && (nat_le (coll_in troves) LIM
    && (sums.stakes == stakes_in troves
    && (nat_le sums.snap_stakes sums.snap_coll
    && beq (sums.snap_stakes == 0) (sums.snap_coll == 0)))))

pub sound_by_sums : (troves : Table Trove) (sums : Sums) → Ascends troves
    → AllByRecursion (λ (row : ℕ × Trove). is_sound_trove sums.coll sums.debt row.1 ≡ true) troves
    → are_sums_of troves sums ≡ true → AreSoundRows troves sums
sound_by_sums troves sums ascends each passes =
    let coll = and_parts (nat_le sums.coll SUM_MOST) _ passes in
    let debt = and_parts (nat_le sums.debt SUM_MOST) _ coll.1 in
    let limit = and_parts (nat_le (coll_in troves) LIM) _ debt.1 in
    let stakes = and_parts (sums.stakes == stakes_in troves) _ limit.1 in
    let snap = and_parts (nat_le sums.snap_stakes sums.snap_coll) _ stakes.1 in
    record {
      ascend = ascends;
      each = each;
      sum_coll = leb-true sums.coll SUM_MOST coll.0;
      sum_debt = leb-true sums.debt SUM_MOST debt.0;
      stakes = eqb-true sums.stakes (stakes_in troves) stakes.0;
      snap = leb-true sums.snap_stakes sums.snap_coll snap.0;
      snap_both = (booleans_Decides (sums.snap_stakes == 0) (sums.snap_coll == 0)).0 snap.1;
      limit = leb-true (coll_in troves) LIM limit.0;
    }
