use Rattle.std.proofs.Common.{sym, subst}
use Rattle.liq_tables.specs.WithRoom.{HasRoom}
use Rattle.liq_stability.specs.Kept.{Kept}
use Rattle.liq_stability.proofs.deposits.Stability.reserve.Goals as goal
use Rattle.liq_stability.proofs.deposits.Stability.reserve.Goals.{in-Some+in_ok-reserve, in_default}

pub returns-clause-kept : goal.returns-clause-kept
returns-clause-kept c key h =
    let had : HasRoom c.self.inside.deposits key = subst (λ (v : Kept). HasRoom v.deposits key) (sym c.self.view_is) h
    in
    elim c.match-account.branch [
      | in-Some+in_ok-reserve w ↦ subst (λ s. HasRoom s.deposits key) (sym w.self-inside-is)
          (w.reserve.ensures.kept key had)
      | in_default w ↦ subst (λ s. HasRoom s.deposits key) (sym w.self-inside-is) had
    ]
