use Rattle.std.proofs.Common.{[], ◌∷◌, List, sym, subst, refl, arith}
use Rattle.std.specs.List.Sorted.{IsStrictlySortedBy}
use Rattle.liq_types.specs.declared.figures.Deposit.{Deposit}
use Rattle.liq_types.specs.Tables.{Table}
use Rattle.liq_types.specs.declared.image.FinishedSum.{FinishedSum}
use Rattle.liq_stability.specs.Kept.{IsSoundPool, finished_rows}
use Rattle.test_parts.specs.declared.troves.pools.TheConstants.{RISEN, RISEN_SUM, RISEN_FIRST, RISEN_SECOND}
use Rattle.test_parts.proofs.troves.pools.risen_anew.Goals as goal

sound : IsSoundPool RISEN (finished_rows (RISEN_SUM ∷ [])) ((1, RISEN_FIRST) ∷ (2, RISEN_SECOND) ∷ [])
unfolding IsStrictlySortedBy
sound = record {
  product = refl;
  sum = refl;
  sums = (refl, tt);
  places = (tt, tt);
  each = (record { amount = omega arith; sound = refl }, (record { amount = omega arith; sound = refl }, tt));
  accounts = ((refl, tt), (tt, tt));
  total = omega arith;
  coll = omega arith;
}

pub from_parts-requires : goal.from_parts-requires
from_parts-requires c =
    subst (λ (t : Table Deposit). IsSoundPool RISEN (finished_rows c.in-Ok.sums.items) t)
    (sym c.in-Ok-from_slice.ensures.items)
    (subst (λ (l : List FinishedSum). IsSoundPool RISEN (finished_rows l) ((1, RISEN_FIRST) ∷ (2, RISEN_SECOND) ∷ []))
    (sym c.in-Ok.ensures.items) sound)
