use Rattle.std.proofs.Common.{ap, ◌∙◌}
use Rattle.std.specs.Prelude.{is_none}
use Rattle.liq_types.specs.Tables.{at}
use Rattle.liq_core.specs.Core.{Core, state_of}
use Rattle.liq_core.proofs.Depositing.{deposit_there}
use Rattle.liq_core.proofs.Pooling.{no_deposit_by}
use Rattle.liq_core.proofs.engine.Protocol.no_deposit.Goals as goal

pub returns : goal.returns
returns c =
    no_deposit_by c.deposit.result c.is_none.result c.is_none.ensures ∙ ap is_none c.deposit.ensures.row
    ∙ deposit_there c.self.inside c.self.invariant c.args.account
    ∙ ap (λ (core : Core). is_none (at (state_of core).deposits c.args.account)) c.self.view_is
