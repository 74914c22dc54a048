-- The accounts that a call names, as the code tells them.
use Rattle.std.specs.Prelude.{ℕ, List, [], ◌∷◌}
use Rattle.liq_core.specs.declared.call_accounts.CallAccounts.{CallAccounts}
use Rattle.liq_core.specs.declared.call_accounts.CallAccounts.TheVariants.{Nobody, One, Both}

-- the accounts, one after the other
abbrev pub listed_accounts : CallAccounts → List ℕ
listed_accounts Nobody = []
listed_accounts (One account) = account ∷ []
listed_accounts (Both first second) = first ∷ second ∷ []
