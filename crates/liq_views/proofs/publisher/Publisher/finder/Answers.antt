use Rattle.liq_views.proofs.Keeping.{admits}
use Rattle.liq_views.proofs.publisher.Publisher.finder.Goals as goal

pub reader-requires : goal.reader-requires
reader-requires c = admits
