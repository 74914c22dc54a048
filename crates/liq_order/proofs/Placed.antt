-- An entry more, where no account stands twice.
use Rattle.std.proofs.Common.{[], ◌∷◌, List, sym}
use Rattle.std.specs.Ordering.{match_ordering}
use Rattle.std.specs.declared.cmp.Ordering.{Ordering}
use Rattle.std.specs.declared.cmp.Ordering.TheVariants.{Less, Equal, Greater}
use Rattle.liq_types.specs.Ranked.{Ranked, rank_order, with_ranked}
use Rattle.liq_order.specs.Listed.{IsAbsent, AreDistinct}
use Rattle.liq_order.proofs.Sorting.{with_absent}

pub with_distinct : (list : List Ranked) (e : Ranked) → IsAbsent e.1 list → AreDistinct list
    → AreDistinct (with_ranked list e)
with_distinct [] e n h = (tt, tt)
with_distinct (f ∷ fs) e n h = by (rank_order e f) (with_distinct fs e n.1 h.1) where
  by : (o : Ordering) → AreDistinct (with_ranked fs e)
      → AreDistinct (match_ordering o (e ∷ f ∷ fs) (e ∷ f ∷ fs) (f ∷ with_ranked fs e))
  by Less more = (n, h)
  by Equal more = (n, h)
  by Greater more = (with_absent fs e f.1 (λ same. n.0 (sym same)) h.0, more)
