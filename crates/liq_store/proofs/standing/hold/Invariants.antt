use Rattle.liq_store.proofs.standing.hold.Given as goal

abbrev pub ghosts-replay : goal.ghosts-replay
ghosts-replay g a = record { name = a.blank.name; parts = a.blank.parts }
