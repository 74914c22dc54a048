use Rattle.std.proofs.Common.{[], sym, subst, refl, arith}
use Rattle.std.specs.List.Sorted.{IsStrictlySortedBy}
use Rattle.liq_types.specs.declared.figures.Trove.{Trove}
use Rattle.liq_types.specs.Tables.{Table}
use Rattle.liq_troves.specs.Kept.{AreKept}
use Rattle.liq_troves.proofs.table.Troves.new.Goals as goal

none : AreKept [] (record { coll = 0; debt = 0; stakes = 0; snap_stakes = 0; snap_coll = 0 }) 0
unfolding IsStrictlySortedBy
none = record {
  ascend = tt;
  each = tt;
  sum_coll = omega arith;
  sum_debt = omega arith;
  stakes = refl;
  snap = omega arith;
  limit = omega arith;
  counted = refl;
}

pub invariant_of-result : goal.invariant_of-result
invariant_of-result c = subst (λ (t : Table Trove). AreKept t (record {
  coll = 0;
  debt = 0;
  stakes = 0;
  snap_stakes = 0;
  snap_coll = 0;
}) 0) (sym c.new.ensures) none
