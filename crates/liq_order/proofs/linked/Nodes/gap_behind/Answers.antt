use Rattle.std.proofs.Common.{Some, ap, sym, ◌∙◌}
use Rattle.liq_order.specs.declared.places.Gap.{Gap}
use Rattle.liq_order.proofs.Seen.{first_tight}
use Rattle.liq_order.proofs.linked.Nodes.gap_behind.Goals as goal

pub returns-in-None-clause-tight : goal.returns-in-None-clause-tight
returns-in-None-clause-tight g c front back whole is above =
    ap (λ (p : Gap). Some p) (c.front.ensures ∙ first_tight c.args.self.now front back whole (sym c.in-None.is ∙ is))
