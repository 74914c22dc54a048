use Rattle.liq_disk_files.proofs.Causes.{unseen, unsynced}
use Rattle.liq_disk_files.proofs.files.synced.Goals as goal

pub returns-in_default-clause-unsynced : goal.returns-in_default-clause-unsynced
returns-in_default-clause-unsynced g c = λ t off. unseen (c.see.ensures t) c.in_default.is

pub returns-in_default-see-clause-unsynced : goal.returns-in_default-see-clause-unsynced
returns-in_default-see-clause-unsynced g c = λ t off. unseen (c.see-2.ensures t) c.in_default-see.is

pub returns-then-not-sync_folder-clause-unsynced :
    goal.returns-then-not-sync_folder-clause-unsynced
returns-then-not-sync_folder-clause-unsynced g c =
    λ t off. unsynced (c.sync_folder.ensures t) c.if-not-sync_folder.true

pub returns-then-left-clause-unsynced : goal.returns-then-left-clause-unsynced
returns-then-left-clause-unsynced g c = λ t off. unsynced (c.sync_folder-then-left.ensures t) off
