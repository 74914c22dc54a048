use Rattle.std.proofs.Common.{sym, subst}
use Rattle.std.specs.Prelude.{Contains}
use Rattle.liq_serve.specs.ByStatus.{statuses_of}
use Rattle.liq_serve.proofs.StatusLaws.{status_known}
use Rattle.liq_serve.proofs.laws.words_have_their_statuses.Goals as goal

pub returns : goal.returns
returns g c before after status words one ends asked =
    let e = ends.ends one asked in
    subst (Contains (statuses_of one)) (sym e.status_is)
    (status_known g.S.Source.at g.K.Sink.at g.D.Disk.at before after one e.end e.leaves)
