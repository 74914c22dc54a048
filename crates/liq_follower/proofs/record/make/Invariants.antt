use Rattle.liq_follower.proofs.record.make.Given as goal

abbrev pub ghosts-make_on : goal.ghosts-make_on
ghosts-make_on a = record { name = a.blank.name; parts = a.blank.parts }
