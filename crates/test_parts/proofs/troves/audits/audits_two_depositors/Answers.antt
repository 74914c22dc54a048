use Rattle.std.proofs.Common.{refl, arith}
use Rattle.liq_types.specs.Product.{least_from}
use Rattle.liq_types.specs.State.{opening}
use Rattle.liq_stability.specs.Examples.{shared_again}
use Rattle.liq_stability.specs.Lawful.{IsLawful}
use Rattle.liq_stability.proofs.LawfulTests.{lawful_tested}
use Rattle.liq_audit_laws.proofs.Auditing.{auditable}
use Rattle.test_parts.proofs.troves.audits.audits_two_depositors.Goals as goal

lawful : IsLawful opening shared_again
unfolding least_from
lawful = lawful_tested opening shared_again refl

pub audit-requires-clause-auditable : goal.audit-requires-clause-auditable
audit-requires-clause-auditable g c = auditable shared_again lawful (omega arith) (omega arith)
