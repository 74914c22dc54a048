use Rattle.liq_audit_laws.proofs.Auditing.{auditable}
use Rattle.liq_audit_laws.proofs.laws.lawful_events_can_be_audited.Goals as goal

pub returns : goal.returns
returns c events lawful gains few = auditable events lawful gains few
