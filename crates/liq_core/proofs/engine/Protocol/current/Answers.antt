use Rattle.std.proofs.Common.{ap}
use Rattle.liq_core.specs.Core.{current}
use Rattle.liq_core.proofs.Rotating.{generation_within}
use Rattle.liq_core.proofs.engine.Protocol.current.Goals as goal

pub returns-clause-counts : goal.returns-clause-counts
returns-clause-counts c = ap current c.self.view_is

pub returns-clause-within : goal.returns-clause-within
returns-clause-within c = generation_within c.self.inside c.self.invariant
