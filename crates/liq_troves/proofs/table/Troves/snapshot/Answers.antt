use Rattle.std.proofs.Common.{◌≤◌, sym, subst}
use Rattle.liq_troves.specs.Kept.{coll_in}
use Rattle.liq_troves.proofs.Kept.{snapped_kept}
use Rattle.liq_troves.proofs.table.Troves.snapshot.Goals as goal

pub invariant_of-self : goal.invariant_of-self
invariant_of-self c =
    snapped_kept c.self.inside.table.rows c.self.inside.sums c.self.inside.count c.args.total_coll c.self.invariant
    (subst (λ v. coll_in v.table.rows ≤ c.args.total_coll) (sym c.self.view_is) c.requires)
