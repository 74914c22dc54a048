use Rattle.std.proofs.Common.{subst}
use Rattle.std.specs.Prelude.{IfSome}
use Rattle.liq_troves.specs.Kept.{IsKept}
use Rattle.liq_troves.proofs.Kept.{found_kept}
use Rattle.liq_troves.proofs.table.Troves.get.Goals as goal

pub returns-clause-kept : goal.returns-clause-kept
returns-clause-kept c =
    subst (λ v. IfSome c.get.result (λ t. IsKept v.sums.coll v.sums.debt t.now)) c.self.view_is
    (found_kept c.self.inside.sums.coll c.self.inside.sums.debt c.self.inside.table.rows c.args.account c.get.result
    c.get.ensures.row c.self.invariant.each)
