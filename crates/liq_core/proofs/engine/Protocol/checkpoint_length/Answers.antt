use Rattle.std.proofs.Common.{length, ap, ◌∙◌}
use Rattle.liq_core.specs.Core.{Core}
use Rattle.liq_core.proofs.engine.Protocol.checkpoint_length.Goals as goal

pub returns-clause-length : goal.returns-clause-length
returns-clause-length c =
    c.checkpoint_with.ensures.length c.args.self.now.image.clients
    (c.count.ensures ∙ ap (λ (core : Core). length core.image.clients) c.self.view_is)
