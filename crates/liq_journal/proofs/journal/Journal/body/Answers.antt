use Rattle.std.proofs.Common.{subst}
use Rattle.liq_journal.specs.Settled.{JournalOn}
use Rattle.liq_journal.proofs.Bodies.{Accepts, plain, accepts}
use Rattle.liq_journal.proofs.journal.Journal.body.Goals as goal

pub returns-clause-accepted : goal.returns-clause-accepted
returns-clause-accepted g c =
    subst (λ (j : JournalOn g.row.D.Denot). Accepts g.D.Disk.at j c.args.index c.read_body.result) c.self.view_is
    (accepts g.D.Disk.at (plain c.self.inside.disk c.self.inside.generation c.self.inside.limit
    c.self.inside.start c.self.inside.count) c.args.index
    c.read_body.result c.requires.from_one c.read_body.ensures.told)
