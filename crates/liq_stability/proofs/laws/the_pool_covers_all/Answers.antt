use Rattle.liq_stability.proofs.Promise.{all_balances_are, all_gains_are, all_paid_are, one_den, balance_uncapped, gain_uncapped, balances_held, gains_held}
use Rattle.liq_stability.proofs.laws.the_pool_covers_all.Goals as goal

pub returns-clause-balances : goal.returns-clause-balances
returns-clause-balances c most served events lawful n below = all_balances_are most served events lawful n below

pub returns-clause-gains : goal.returns-clause-gains
returns-clause-gains c most served events lawful n below = all_gains_are most served events lawful n below

pub returns-clause-paid : goal.returns-clause-paid
returns-clause-paid c most served events lawful n below = all_paid_are most served events lawful n below

pub returns-clause-one_den : goal.returns-clause-one_den
returns-clause-one_den c most served events lawful account = one_den most served events lawful account

pub returns-clause-caps : goal.returns-clause-caps
returns-clause-caps c most served events lawful account d is = (
  balance_uncapped most served events lawful account d is,
  gain_uncapped most served events lawful account d is,
)

pub returns-clause-balances_held : goal.returns-clause-balances_held
returns-clause-balances_held c most served events lawful = balances_held most served events lawful

pub returns-clause-gains_held : goal.returns-clause-gains_held
returns-clause-gains_held c most served events lawful = gains_held most served events lawful
