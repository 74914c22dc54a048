use Rattle.liq_core.proofs.engine.Protocol.list.Given as goal

abbrev pub ghosts-told_along : goal.ghosts-told_along
ghosts-told_along a = record { name = a.blank.name; parts = a.blank.parts }
