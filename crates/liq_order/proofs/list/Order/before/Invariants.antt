use Rattle.liq_order.proofs.list.Order.before.Given as goal

abbrev pub ghosts-before : goal.ghosts-before
ghosts-before a = record { name = a.blank.name; parts = a.blank.parts }
