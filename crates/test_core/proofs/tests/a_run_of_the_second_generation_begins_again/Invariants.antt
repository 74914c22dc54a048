use Rattle.test_core.proofs.tests.a_run_of_the_second_generation_begins_again.Given as goal

abbrev pub ghosts-see_second : goal.ghosts-see_second
ghosts-see_second g a = record { name = a.blank.name; parts = a.blank.parts }
