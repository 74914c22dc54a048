use Rattle.liq_order.proofs.list.Order.last.Given as goal

abbrev pub ghosts-end : goal.ghosts-end
ghosts-end a = record { name = a.blank.name; parts = a.blank.parts }
