use Rattle.liq_serve.proofs.ByStatus.{by_status}
use Rattle.liq_serve.proofs.laws.statuses_have_causes.Goals as goal

pub returns : goal.returns
returns g c before after status words ends =
    by_status g.S.Source.at g.K.Sink.at g.D.Disk.at before after status words ends
