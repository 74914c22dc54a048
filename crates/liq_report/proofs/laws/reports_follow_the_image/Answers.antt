use Rattle.liq_rule_step.proofs.AlikeReads.{Alike}
use Rattle.liq_report.proofs.Alike.{report_alike}
use Rattle.liq_report.proofs.laws.reports_follow_the_image.Goals as goal

pub returns : goal.returns
returns c s t left right same =
    let alike : Alike s t = record { image = same.image; records = same.records; left = left; right = right } in
    report_alike alike
