use Rattle.liq_stability.proofs.Promise.{pool_stands, sum_beside}
use Rattle.liq_stability.proofs.laws.the_words_stay_within.Goals as goal

pub returns-clause-product : goal.returns-clause-product
returns-clause-product c most served events lawful = (pool_stands most served events lawful).range

pub returns-clause-sum : goal.returns-clause-sum
returns-clause-sum c most served events lawful = sum_beside most served events lawful

pub returns-clause-sums : goal.returns-clause-sums
returns-clause-sums c most served events lawful place = (pool_stands most served events lawful).sums.all place
