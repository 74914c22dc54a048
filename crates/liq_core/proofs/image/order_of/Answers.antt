use Rattle.std.proofs.Common.{◌≡◌, ap, sym, subst, ◌∙◌}
use Rattle.std.proofs.lemmas.Result.{IfOk-weaker}
use Rattle.liq_order.specs.Listed.{AreDistinct}
use Rattle.liq_order.specs.Order.{order_by, sorted}
use Rattle.liq_core.proofs.image.order_of.Goals as goal

pub from_ranked-requires : goal.from_ranked-requires
from_ranked-requires c = subst AreDistinct (sym c.in_ok-pairs.ensures) c.requires.once

pub returns : goal.returns
returns c =
    IfOk-weaker c.from_ranked.result (λ order. order.entries ≡ sorted c.in_ok-pairs.pairs.items) (λ order. order.entries
    ≡ order_by c.args.troves.now)
    (λ order e. e ∙ ap (λ pairs. sorted pairs) c.in_ok-pairs.ensures) c.from_ranked.ensures
