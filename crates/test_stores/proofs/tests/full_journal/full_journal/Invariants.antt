use Rattle.test_stores.proofs.tests.full_journal.full_journal.Given as goal

abbrev pub ghosts-see_full : goal.ghosts-see_full
ghosts-see_full g a = record { name = a.blank.name; parts = a.blank.parts }
