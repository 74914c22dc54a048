use Rattle.liq_journal.proofs.Opening.{told_settled}
use Rattle.liq_journal.proofs.journal.Journal.open.Goals as goal

pub returns-in-Ok-clause-settled : goal.returns-in-Ok-clause-settled
returns-in-Ok-clause-settled g c = told_settled (g.D.Disk.at c.args.disk).seen (g.D.Disk.at c.open_on.new.disk).seen
    c.args.odd c.in-Ok.scanned c.open_on.ensures.lasts.telling c.in-Ok.ensures.found c.in-Ok.ensures.stands
