use Rattle.liq_borrow.proofs.Allowed.{open_passes, change_passes, close_passes, gain_passes}
use Rattle.liq_borrow.proofs.laws.allowed_plans_have_their_facts.Goals as goal

pub returns-clause-open : goal.returns-clause-open
returns-clause-open c = open_passes

pub returns-clause-change : goal.returns-clause-change
returns-clause-change c = change_passes

pub returns-clause-close : goal.returns-clause-close
returns-clause-close c = close_passes

pub returns-clause-gain : goal.returns-clause-gain
returns-clause-gain c = gain_passes
