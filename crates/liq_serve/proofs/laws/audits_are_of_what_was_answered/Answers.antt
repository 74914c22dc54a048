use Rattle.liq_serve.proofs.AuditBehind.{audits_answered}
use Rattle.liq_serve.proofs.laws.audits_are_of_what_was_answered.Goals as goal

pub returns : goal.returns
returns g c = audits_answered g.S.Source.at g.K.Sink.at g.D.Disk.at
