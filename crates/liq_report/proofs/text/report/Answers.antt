use Rattle.std.proofs.Common.{[], Some, sym, ◌∙◌}
use Rattle.serde.specs.Event.{Log}
use Rattle.serde_json.specs.Sent.{IsTextOf}
use Rattle.liq_rule_step.specs.Image.{IsSameState}
use Rattle.liq_core.specs.Core.{state_of}
use Rattle.liq_report.specs.Sent.{SendsReport}
use Rattle.liq_report.proofs.Sending.{text_of_report}
use Rattle.liq_report.proofs.text.report.Goals as goal

pub returns-in-Ok : goal.returns-in-Ok
returns-in-Ok c s stands =
    let now = state_of c.args.protocol.now in
    let own = c.protocols_stand.ensures in
    let same : IsSameState now s = record {
      image = sym own.image ∙ stands.image;
      records = sym own.records ∙ stands.records;
    } in
    let sent : (log : Log) × SendsReport now (Some []) log × IsTextOf log c.in-Ok.text.items =
    c.in-Ok.ensures.events in
    text_of_report now sent.0 c.in-Ok.text.items sent.1 sent.2
    ∙ c.reports_follow_the_image.ensures now s own.formed stands.formed same
