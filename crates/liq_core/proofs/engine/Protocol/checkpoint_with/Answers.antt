use Rattle.std.proofs.Common.{ap, arith}
use Rattle.liq_types.specs.Length.{checkpoint_length}
use Rattle.liq_core.specs.Core.{Core}
use Rattle.liq_core.proofs.engine.Protocol.checkpoint_with.Goals as goal

pub returns-clause-length : goal.returns-clause-length
returns-clause-length c rows same =
    let view = ap (λ (core : Core). checkpoint_length (record core.image { clients = rows })) c.self.view_is in
    omega (arith, same, view)
