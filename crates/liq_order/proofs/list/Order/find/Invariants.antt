use Rattle.liq_order.proofs.list.Order.find.Given as goal

abbrev pub ghosts-key_of : goal.ghosts-key_of
ghosts-key_of a = record { name = a.blank.name; parts = a.blank.parts }
