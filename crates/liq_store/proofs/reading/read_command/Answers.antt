use Rattle.liq_disk_records.proofs.Faults.{met_as, met_counts, met_readable}
use Rattle.liq_store.specs.Answering.{IsUnreadable}
use Rattle.liq_store.proofs.Listing.{unread_body}
use Rattle.liq_store.proofs.reading.read_command.Goals as goal

pub returns-in_err-command-clause-damaged : goal.returns-in_err-command-clause-damaged
returns-in_err-command-clause-damaged g c =
    let journal = c.args.journal.now in
    met_as c.from_residual.result _ (IsUnreadable journal.generation journal.start journal.count)
    c.from_residual.ensures.1
    (unread_body journal.generation journal.start journal.count c.args.index _ c.requires.there
    c.in_err-command.ensures.damaged)

pub returns-in_err-command-clause-readable : goal.returns-in_err-command-clause-readable
returns-in_err-command-clause-readable g c =
    met_readable g.D.Disk.at c.args.journal.now c.args.index c.from_residual.result _ c.from_residual.ensures.1
    c.in_err-command.ensures.accepted

pub returns-in_err-command-clause-cause : goal.returns-in_err-command-clause-cause
returns-in_err-command-clause-cause g c =
    met_counts c.from_residual.result _ _ _ c.from_residual.ensures.1 c.in_err-command.ensures.cause

pub returns-clause-no_rotation : goal.returns-clause-no_rotation
returns-clause-no_rotation g c = c.in_ok-command.ensures.command.1.no_rotation
