use Rattle.liq_order.proofs.Rising.{four_tight}
use Rattle.liq_order.proofs.examples.tight_hint_example.Goals as goal

pub returns-clause-tight : goal.returns-clause-tight
returns-clause-tight c = four_tight
