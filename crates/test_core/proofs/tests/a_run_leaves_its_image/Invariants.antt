use Rattle.test_core.proofs.tests.a_run_leaves_its_image.Given as goal

abbrev pub ghosts-see_run : goal.ghosts-see_run
ghosts-see_run g a = record { name = a.blank.name; parts = a.blank.parts }
