use Rattle.std.proofs.Common.{subst}
use Rattle.std.specs.Prelude.{IfSome}
use Rattle.liq_stability.specs.Kept.{IsDepositOf, finished_rows}
use Rattle.liq_stability.proofs.Keeping.{found_sound}
use Rattle.liq_stability.proofs.deposits.Stability.deposit.Goals as goal

pub returns-clause-sound : goal.returns-clause-sound
returns-clause-sound c =
    let s = c.self.inside in
    subst (λ v. IfSome c.get.result (λ d. IsDepositOf v.words v.finished d.now)) c.self.view_is
    (found_sound s.words (finished_rows s.finished.items) s.deposits.rows c.args.account c.get.result c.get.ensures.row
    c.self.invariant)
