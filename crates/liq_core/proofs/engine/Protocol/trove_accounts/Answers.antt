use Rattle.std.proofs.Common.{length, ap, subst, sym, ◌∙◌}
use Rattle.liq_order.specs.Listed.{AreDistinct}
use Rattle.liq_order.proofs.Ranking.{order_distinct}
use Rattle.liq_core.specs.Core.{Core}
use Rattle.liq_core.proofs.FromTheEnd.{length-order}
use Rattle.liq_core.proofs.engine.Protocol.trove_accounts.Goals as goal

pub write_accounts-requires : goal.write_accounts-requires
write_accounts-requires c =
    let p = c.self.inside in
    subst AreDistinct (sym c.self.invariant.order)
    (order_distinct p.troves.table.rows c.self.invariant.image.tables.troves)

pub returns-clause-count : goal.returns-clause-count
returns-clause-count c =
    c.count.ensures
    ∙ sym (length-order c.self.inside.troves.table.rows)
    ∙ ap length (sym c.self.invariant.order)
    ∙ ap (λ (core : Core). length core.list) c.self.view_is
