use Rattle.std.proofs.Common.{sym, ◌∙◌, ap}
use Rattle.liq_core.specs.Core.{state_of}
use Rattle.liq_report.specs.Told.{system_words}
use Rattle.liq_report.proofs.totals.totals.Goals as goal

pub returns : goal.returns
returns c =
    let s = state_of c.args.protocol.now in
    c.named.ensures s (c.system_in.ensures ∙ ap system_words (sym (c.query-reply.ensures s c.protocols_stand.ensures)))
