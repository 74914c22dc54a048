use Rattle.liq_order.proofs.Present.{order_has_each}
use Rattle.liq_order.proofs.Ranking.{order_distinct}
use Rattle.liq_redemption.proofs.laws.orders_have_each_trove_once.Goals as goal

pub returns-clause-once : goal.returns-clause-once
returns-clause-once c = order_distinct

pub returns-clause-each : goal.returns-clause-each
returns-clause-each c = order_has_each
