use Rattle.std.proofs.Common.{OnOk, subst}
use Rattle.serde_json.specs.Events.{SendsValue}
use Rattle.liq_report.specs.declared.objects.Totals.{Totals}
use Rattle.liq_report.specs.Values.{totals_data}
use Rattle.liq_report.proofs.totals.send_system.Goals as goal

pub returns : goal.returns
returns g c =
    subst (λ (t : Totals). OnOk c.send_totals.result (SendsValue (totals_data t) (g.S.Serializer.written c.args.out.now)
    (g.S.Serializer.written c.send_totals.new.out))) c.totals.ensures c.send_totals.ensures
