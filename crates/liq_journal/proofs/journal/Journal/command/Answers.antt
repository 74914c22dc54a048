use Rattle.std.proofs.Common.{subst}
use Rattle.liq_journal.specs.Settled.{JournalOn}
use Rattle.liq_journal.proofs.Bodies.{Records, plain, records_so}
use Rattle.liq_journal.proofs.journal.Journal.command.Goals as goal

pub returns-clause-accepted : goal.returns-clause-accepted
returns-clause-accepted g c =
    subst (λ (j : JournalOn g.row.D.Denot). Records g.D.Disk.at j c.args.index c.read_command.result) c.self.view_is
    (records_so g.D.Disk.at (plain c.self.inside.disk c.self.inside.generation c.self.inside.limit
    c.self.inside.start c.self.inside.count) c.args.index
    c.read_command.result c.requires.from_one c.read_command.ensures.told)
