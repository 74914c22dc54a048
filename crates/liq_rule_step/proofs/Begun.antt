-- A well-formed state begins again from its image.
use Rattle.std.proofs.Common.{refl, sym}
use Rattle.liq_types.specs.declared.figures.Trove.{Trove}
use Rattle.liq_types.specs.State.{State, started}
use Rattle.liq_types.specs.WellFormed.{AreFinished, IsWellFormed}
use Rattle.liq_types.proofs.MapRows.{map-sum}
use Rattle.liq_types.proofs.FinishedSums.{finished-before}
use Rattle.liq_troves.specs.StakeSums.{trove_row}
use Rattle.liq_rule_step.specs.Image.{image, IsSameState}
use Rattle.liq_rule_step.proofs.Started.{started_image}

pub finished_in : (s : State) → IsWellFormed s → AreFinished (image s)
finished_in s h = finished-before s.start s.offsets h.0

pub begins_again : (s : State) → IsWellFormed s → IsSameState (record (started (image s)) { records = s.records }) s
begins_again s h =
    record {
      image = started_image (image s) (sym (map-sum (trove_row s) (λ (t : Trove). t.stake) s.troves));
      records = refl;
    }
