use Rattle.std.proofs.Common.{sym, subst, List, take}
use Rattle.std.specs.Prelude.{All}
use Rattle.liq_audit.specs.declared.rows.Row.{Row}
use Rattle.liq_audit.specs.Auditable.{EnclosesShare}
use Rattle.liq_audit.proofs.Auditing.{encloses_rows}
use Rattle.liq_audit.proofs.auditor.audit.Goals as goal

pub returns-clause-shares : goal.returns-clause-shares
returns-clause-shares c =
    subst (λ (rows : List Row). All (EnclosesShare c.args.events.now) rows) (sym c.loop-account.invariant)
    (encloses_rows c.args.events.now c.requires.auditable (take c.loop-account.account-index c.args.engine.now))
