use Rattle.liq_num.proofs.Digits.{power_of-le, power_of-mono}
use Rattle.liq_num.proofs.laws.powers_stay_within.Goals as goal

pub returns-clause-at_most : goal.returns-clause-at_most
returns-clause-at_most c = power_of-le

pub returns-clause-rising : goal.returns-clause-rising
returns-clause-rising c = power_of-mono
