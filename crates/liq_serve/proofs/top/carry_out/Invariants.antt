use Rattle.liq_serve.proofs.top.carry_out.Given as goal

abbrev pub ghosts-tell_load : goal.ghosts-tell_load
ghosts-tell_load g a = record { name = a.blank.name; parts = a.blank.parts }
