-- Worked examples of the order: entries, and how they are sorted.
use Rattle.std.specs.Prelude.{ℕ, zero, suc, List, [], ◌∷◌, ◌++◌, pos}
use Rattle.liq_order.specs.Order.{Ranked}

abbrev pub entry : ℕ → ℕ → Ranked
entry key account = (pos key, account)

abbrev pub five : List Ranked
five = entry 40 4 ∷ entry 10 1 ∷ entry 30 3 ∷ entry 25 9 ∷ entry 20 2 ∷ []

-- the five without the third
abbrev pub four : List Ranked
four = entry 10 1 ∷ entry 20 2 ∷ entry 30 3 ∷ entry 40 4 ∷ []

abbrev pub alike : List Ranked
alike = entry 20 5 ∷ entry 20 2 ∷ entry 10 1 ∷ []

-- so many accounts from 0 on, each under its own number as the key
unfoldable pub rising : ℕ → List Ranked
rising zero = []
rising (suc n) = rising n ++ entry n n ∷ []
