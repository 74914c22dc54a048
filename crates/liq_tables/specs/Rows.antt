-- Rows that keep room for others, which the tables of a state have not.
use Rattle.std.specs.Prelude.{ℕ, Bool, not, ◌==◌}
use Rattle.liq_types.specs.declared.figures.Trove.{Trove}
use Rattle.liq_types.specs.declared.figures.Deposit.{Deposit}

-- an amount of nothing leaves no row
abbrev pub is_used_amount : ℕ → Bool
is_used_amount amount = not (amount == 0)

-- the row that only keeps room for a trove: each trove has a stake
abbrev pub no_trove : Trove
no_trove = record { coll = 0; debt = 0; stake = 0; mark_coll = 0; mark_debt = 0 }

abbrev pub is_used_trove : Trove → Bool
is_used_trove t = not (t.stake == 0)

-- the row that only keeps room for a deposit: each deposit has an amount
abbrev pub no_deposit : Deposit
no_deposit = record { amount = 0; p = 0; sum = 0; scale = 0; epoch = 0 }

abbrev pub is_used_deposit : Deposit → Bool
is_used_deposit d = not (d.amount == 0)
