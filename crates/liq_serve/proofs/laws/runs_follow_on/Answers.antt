use Rattle.liq_serve.proofs.Twice.{follow_on}
use Rattle.liq_serve.proofs.laws.runs_follow_on.Goals as goal

pub returns : goal.returns
returns g c before middle again after status later words others one two asked asked_too l r a b start told_l told_r is
    were told_a told_b behind =
    follow_on g.S.Source.at g.K.Sink.at g.D.Disk.at before middle again after status later words others one two asked
    asked_too l r a b start told_l told_r is were told_a told_b behind
