use Rattle.liq_audit.proofs.Enclosing.{encloses}
use Rattle.liq_audit.proofs.laws.enclosures_enclose.Goals as goal

pub returns-clause-balance_lo : goal.returns-clause-balance_lo
returns-clause-balance_lo c account events some = (encloses account events some).balance_lo

pub returns-clause-balance_hi : goal.returns-clause-balance_hi
returns-clause-balance_hi c account events some = (encloses account events some).balance_hi

pub returns-clause-gain_lo : goal.returns-clause-gain_lo
returns-clause-gain_lo c account events some = (encloses account events some).gain_lo

pub returns-clause-gain_hi : goal.returns-clause-gain_hi
returns-clause-gain_hi c account events some = (encloses account events some).gain_hi
