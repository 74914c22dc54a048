use Rattle.liq_store.proofs.Beginning.{begins, begins_opened, begins_shut}
use Rattle.liq_store.proofs.store.go_on.Goals as goal

pub begin_on-requires : goal.begin_on-requires
begin_on-requires g c =
    rw c.disk_of.ensures (begins g.D.Disk.at c.args.side c.args.taken c.args.protocol c.args.aside c.requires.taken
    c.requires.aside c.requires.earlier)

pub returns-clause-opened : goal.returns-clause-opened
returns-clause-opened g c =
    rw (c.begin_on.ensures, c.disk_of.ensures) (begins_opened g.D.Disk.at c.args.side c.args.taken c.args.protocol
    c.args.aside c.requires.taken c.requires.aside c.requires.earlier)

pub returns-clause-shut : goal.returns-clause-shut
returns-clause-shut g c =
    rw (c.begin_on.ensures, c.disk_of.ensures) (begins_shut g.D.Disk.at c.args.side c.args.taken c.args.protocol
    c.args.aside c.requires.taken c.requires.aside c.requires.earlier)
