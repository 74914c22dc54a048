use Rattle.std.proofs.Common.{ap, ◌∙◌}
use Rattle.liq_types.specs.declared.requests.Command.{Command}
use Rattle.liq_core.specs.Core.{state_of}
use Rattle.test_core.proofs.tests.foretell.Goals as goal

pub image_after-requires-clause-rotates : goal.image_after-requires-clause-rotates
image_after-requires-clause-rotates c =
    let s = state_of c.args.protocol.now in
    let planned = (rw c.in-Ok-New.field-0-is at c.in-Ok-New.ensures) s c.protocols_stand.ensures in
    ap (λ (k : Command). k.call) (planned.0 ∙ c.numbered.ensures)

pub image_after-requires-clause-planned : goal.image_after-requires-clause-planned
image_after-requires-clause-planned c s h = ((rw c.in-Ok-New.field-0-is at c.in-Ok-New.ensures) s h).1
