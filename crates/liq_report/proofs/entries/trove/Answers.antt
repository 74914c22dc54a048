use Rattle.std.proofs.Common.{sym, ◌∙◌, ap}
use Rattle.liq_core.specs.Core.{state_of}
use Rattle.liq_report.specs.Values.{trove_in}
use Rattle.liq_report.proofs.Stands.{trove_told}
use Rattle.liq_report.proofs.entries.trove.Goals as goal

pub returns : goal.returns
returns c =
    let s = state_of c.args.protocol.now in
    c.trove_in.ensures ∙ ap trove_in (sym (c.query-reply.ensures s c.protocols_stand.ensures))
    ∙ trove_told s c.args.account c.requires
