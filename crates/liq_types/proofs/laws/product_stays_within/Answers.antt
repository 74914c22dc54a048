use Rattle.std.proofs.Common.{arith}
use Rattle.liq_types.specs.declared.amounts.TheConstants.{LIM}
use Rattle.liq_types.proofs.Ranges.{offset_within, rise_few, rise_no_more, prod_within}
use Rattle.liq_types.proofs.Sums.{sum_stays, sum_finished}
use Rattle.liq_types.proofs.laws.product_stays_within.Goals as goal

pub returns-clause-one : goal.returns-clause-one
returns-clause-one c = offset_within LIM (omega arith)

pub returns-clause-few : goal.returns-clause-few
returns-clause-few c = rise_few LIM (omega arith)

pub returns-clause-no_more : goal.returns-clause-no_more
returns-clause-no_more c = rise_no_more LIM (omega arith)

pub returns-clause-all : goal.returns-clause-all
returns-clause-all c = prod_within LIM (omega arith)

pub returns-clause-sum : goal.returns-clause-sum
returns-clause-sum c w o sum h t less under stays = sum_stays LIM w o sum h t less under stays

pub returns-clause-finished : goal.returns-clause-finished
returns-clause-finished c w o sum h t less under = sum_finished LIM w o sum h t less under
