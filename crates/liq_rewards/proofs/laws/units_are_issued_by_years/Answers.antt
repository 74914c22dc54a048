use Rattle.liq_rewards.proofs.Issuing.{issued-in, issued-monotone, issued-most, issued-late}
use Rattle.liq_rewards.proofs.laws.units_are_issued_by_years.Goals as goal

pub returns-clause-year : goal.returns-clause-year
returns-clause-year c year minutes within = issued-in year minutes within

pub returns-clause-rising : goal.returns-clause-rising
returns-clause-rising c first last h = issued-monotone first last h

pub returns-clause-most : goal.returns-clause-most
returns-clause-most c minutes = issued-most minutes

pub returns-clause-all : goal.returns-clause-all
returns-clause-all c minutes late = issued-late minutes late
