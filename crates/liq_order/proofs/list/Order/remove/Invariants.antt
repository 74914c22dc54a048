use Rattle.liq_order.proofs.list.Order.remove.Given as goal

abbrev pub ghosts-remove : goal.ghosts-remove
ghosts-remove a = record { name = a.blank.name; parts = a.blank.parts }
