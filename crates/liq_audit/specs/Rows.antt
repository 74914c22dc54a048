-- A row of an audit as numbers.
use Rattle.std.specs.Prelude.{ℕ, List, [], ◌∷◌}
use Rattle.liq_audit.specs.declared.rows.Row.{Row}

abbrev pub numbers_of : Row → List ℕ
numbers_of row =
    row.account
    ∷ row.balance_lo
    ∷ row.balance_hi
    ∷ row.balance
    ∷ row.balance_allow
    ∷ row.gain_lo
    ∷ row.gain_hi
    ∷ row.gain
    ∷ row.gain_allow
    ∷ []
