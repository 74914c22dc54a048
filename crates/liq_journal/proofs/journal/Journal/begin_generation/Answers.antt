use Rattle.std.proofs.Common.{◌+◌}
use Rattle.std.proofs.lemmas.Result.{err_from_is_err_and}
use Rattle.liq_journal.proofs.Opening.{begun_settled}
use Rattle.liq_journal.proofs.journal.Journal.begin_generation.Goals as goal

pub returns-in_err-make-clause-reads : goal.returns-in_err-make-clause-reads
returns-in_err-make-clause-reads g c =
    let p = err_from_is_err_and c.from_residual.result c.from_residual.ensures.1
    in rw (p.1, ← c.self.view_is) c.make.ensures.reads

pub returns-clause-reads : goal.returns-clause-reads
returns-clause-reads g c = rw (c.swap.ensures.x_after, ← c.self.view_is) c.make.ensures.reads

pub returns-clause-created : goal.returns-clause-created
returns-clause-created g c held told = rw (c.swap.ensures.x_after, ← c.self.view_is)
    (c.in_ok-make.ensures.created held told)

pub returns-clause-settled : goal.returns-clause-settled
returns-clause-settled g c =
    rw c.swap.ensures.x_after
    (begun_settled (g.D.Disk.at c.args.beside.now).seen (g.D.Disk.at c.make.new.disk).seen (c.self.inside.generation
    + 1) c.args.checkpoint.now c.make.ensures.called.lasts.telling c.in_ok-make.ensures.created)
