use Rattle.liq_store.proofs.store.Store.carry_out.Given as goal

abbrev pub ghosts-make : goal.ghosts-make
ghosts-make g a = record { name = a.blank.name; parts = a.blank.parts }
