use Rattle.test_parts.proofs.troves.orders.hints.Given as goal

abbrev pub ghosts-check_turns : goal.ghosts-check_turns
ghosts-check_turns g a = record { name = a.blank.name; parts = a.blank.parts }
