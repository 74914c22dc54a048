-- How a review fails where its audit does.
use Rattle.liq_audit.specs.declared.rows.AuditFault.{AuditFault}
use Rattle.liq_audit.specs.declared.rows.AuditFault.TheVariants as audit
use Rattle.liq_text_audit.specs.declared.fault.ReviewFault.{ReviewFault}
use Rattle.liq_text_audit.specs.declared.fault.ReviewFault.TheVariants.{Limit, NoMemory}

abbrev pub fault_of : AuditFault → ReviewFault
fault_of (audit.AuditLimit count limit) = Limit count
fault_of audit.NoMemory = NoMemory
