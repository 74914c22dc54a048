use Rattle.liq_audit_laws.proofs.Auditing.{within_row, within_with}
use Rattle.liq_audit_laws.proofs.laws.every_row_is_within.Goals as goal

pub returns-clause-pool : goal.returns-clause-pool
returns-clause-pool c events lawful gains few engine balance_is gain_is =
    within_row events lawful gains few engine balance_is gain_is

pub returns-clause-promised : goal.returns-clause-promised
returns-clause-promised c events lawful gains few s engine promise balance_is gain_is =
    within_with events lawful gains few s engine promise balance_is gain_is
