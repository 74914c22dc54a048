use Rattle.std.proofs.Common.{[], ◌∷◌, sym, subst, refl}
use Rattle.std.specs.List.Sorted.{IsStrictlySortedBy}
use Rattle.liq_types.specs.declared.figures.Trove.{Trove}
use Rattle.liq_types.specs.Tables.{Table}
use Rattle.liq_troves.specs.Kept.{AreSoundRows}
use Rattle.test_parts.proofs.SoundRows.{sound_by_sums}
use Rattle.test_parts.specs.declared.troves.troves.TheConstants.{LEFT, LEFT_SUMS}
use Rattle.test_parts.proofs.troves.troves.left_anew.Goals as goal

sound : AreSoundRows ((2, LEFT) ∷ []) LEFT_SUMS
unfolding IsStrictlySortedBy
sound = sound_by_sums ((2, LEFT) ∷ []) LEFT_SUMS (tt, tt) (refl, tt) refl

pub from_rows-requires : goal.from_rows-requires
from_rows-requires c = subst (λ (t : Table Trove). AreSoundRows t LEFT_SUMS) (sym c.in-Ok.ensures.items) sound
