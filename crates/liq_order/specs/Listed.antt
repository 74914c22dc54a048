-- The ordered list as its calls see it: its entries, and for how many more there is room.
use Rattle.std.specs.List.{AllByRecursion}
use Rattle.std.specs.Prelude.{◌≢◌, ℕ, List, [], ◌∷◌}
use Rattle.liq_types.specs.Ranked.{Ranked}

pub record Listed : Type 0 where
  pub entries : List Ranked
  pub room : ℕ

-- no entry has the account
abbrev pub IsAbsent : ℕ → List Ranked → Type 0
IsAbsent account list = AllByRecursion (λ (e : Ranked). e.1 ≢ account) list

-- no two entries have the same account
abbrev pub AreDistinct : List Ranked → Type 0
AreDistinct [] = Unit {0}
AreDistinct (e ∷ es) = IsAbsent e.1 es × AreDistinct es
