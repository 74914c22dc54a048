use Rattle.std.proofs.Common.{ap}
use Rattle.liq_word_state.proofs.Looking.{only_looks}
use Rattle.liq_word_state.proofs.journal.kept_commands.Goals as goal

pub returns-in-Ok-clause-disks : goal.returns-in-Ok-clause-disks
returns-in-Ok-clause-disks g c =
    only_looks g.D.Disk.at c.args.store.now c.accepted.new.self _ (ap (λ s. s.side) c.accepted.ensures.same)
    c.accepted.ensures.looked
    c.accepted.ensures.beside c.in-Ok.ensures.cause

pub returns-in-Err-DiskFault-clause-disks : goal.returns-in-Err-DiskFault-clause-disks
returns-in-Err-DiskFault-clause-disks g c =
    only_looks g.D.Disk.at c.args.store.now c.accepted.new.self _ (ap (λ s. s.side) c.accepted.ensures.same)
    c.accepted.ensures.looked
    c.accepted.ensures.beside (rw c.in-Err-DiskFault.field-0-is at c.in-Err-DiskFault.ensures.cause)

pub returns-in-Err-Damaged-clause-disks : goal.returns-in-Err-Damaged-clause-disks
returns-in-Err-Damaged-clause-disks g c =
    only_looks g.D.Disk.at c.args.store.now c.accepted.new.self _ (ap (λ s. s.side) c.accepted.ensures.same)
    c.accepted.ensures.looked
    c.accepted.ensures.beside (rw c.in-Err-Damaged.field-0-is at c.in-Err-Damaged.ensures.cause)

pub returns-in-Err-NoMemory-clause-disks : goal.returns-in-Err-NoMemory-clause-disks
returns-in-Err-NoMemory-clause-disks g c =
    only_looks g.D.Disk.at c.args.store.now c.accepted.new.self _ (ap (λ s. s.side) c.accepted.ensures.same)
    c.accepted.ensures.looked
    c.accepted.ensures.beside (rw c.in-Err-NoMemory.field-0-is at c.in-Err-NoMemory.ensures.cause)
