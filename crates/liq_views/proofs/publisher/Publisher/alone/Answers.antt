use Rattle.liq_views.proofs.Keeping.{begun}
use Rattle.liq_views.proofs.publisher.Publisher.alone.Goals as goal

pub new-requires-3-clause-rule : goal.new-requires-3-clause-rule
new-requires-3-clause-rule c = begun c.new.result c.new.ensures
