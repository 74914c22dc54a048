use Rattle.std.proofs.Common.{sym, ◌∙◌, ap}
use Rattle.liq_core.specs.Core.{state_of}
use Rattle.liq_report.specs.Values.{deposit_in}
use Rattle.liq_report.proofs.Stands.{deposit_told}
use Rattle.liq_report.proofs.entries.deposit.Goals as goal

pub returns : goal.returns
returns c =
    let s = state_of c.args.protocol.now in
    c.deposit_in.ensures ∙ ap deposit_in (sym (c.query-reply.ensures s c.protocols_stand.ensures))
    ∙ deposit_told s c.args.account c.requires
