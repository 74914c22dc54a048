use Rattle.std.proofs.Common.{sym, ap, ◌∙◌}
use Rattle.liq_types.specs.declared.image.Image.{Image}
use Rattle.liq_order.specs.Order.{order_by}
use Rattle.liq_core.specs.Core.{Core}
use Rattle.liq_core.proofs.laws.lists_stand.Goals as goal

pub returns : goal.returns
returns c s h =
    sym (ap (λ (core : Core). core.list) c.protocol.view_is)
    ∙ c.protocol.invariant.order
    ∙ ap (λ (core : Core). order_by core.image.troves) c.protocol.view_is
    ∙ ap (λ (i : Image). order_by i.troves) h.image
