use Rattle.std.proofs.Common.{[], ◌∷◌, sym, subst, pos}
use Rattle.liq_order.specs.Listed.{AreDistinct}
use Rattle.test_parts.proofs.troves.orders.made_at_once.Goals as goal

apart : AreDistinct ((pos 40, 4) ∷ (pos 25, 9) ∷ (pos 10, 1) ∷ (pos 30, 3) ∷ (pos 20, 2) ∷ [])
apart = (
  ((λ e. cc), ((λ e. cc), ((λ e. cc), ((λ e. cc), tt)))),
  (
    ((λ e. cc), ((λ e. cc), ((λ e. cc), tt))),
    (((λ e. cc), ((λ e. cc), tt)), (((λ e. cc), tt), (tt, tt))),
  ),
)

pub from_ranked-requires : goal.from_ranked-requires
from_ranked-requires c = subst AreDistinct (sym c.in-Ok.ensures.items) apart
