use Rattle.liq_disk_files.proofs.files.disks.Goals as goal

pub returns-in-None-clause-none : goal.returns-in-None-clause-none
returns-in-None-clause-none g c = λ t none. c.both.ensures.none t c.in-None.is
