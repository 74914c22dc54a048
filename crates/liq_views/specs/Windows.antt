-- What a window shows, and its count of shut looks.
use Rattle.std.specs.Prelude.{◌≡◌, ◌<◌, ◌≤◌, ◌⊎◌, ℕ, Option, Some, None}
use Rattle.liq_list_version.specs.Versions.{Numbered}

-- the last value of a count, which has 64 bits
abbrev pub count_most : ℕ
count_most = 18446744073709551615

-- a shut look was counted, as far as the count goes
abbrev pub Rose : ℕ → ℕ → Type 0
Rose before after = (before < after) ⊎ (count_most ≤ after)

-- one look: it was let in, and `told` holds; or it was shut, which was counted, and `untold` holds
abbrev pub Looked : ℕ → ℕ → Type 0 → Type 0 → Type 0
Looked before after told untold = ((after ≡ before) × told) ⊎ (Rose before after × untold)

-- what was told is told from then on, and its number doesn't go back
abbrev pub GoesOn : Option Numbered → Option Numbered → Type 0
GoesOn None after = Unit {0}
GoesOn (Some u) None = ⊥
GoesOn (Some u) (Some v) = u.number ≤ v.number

-- the number of what is shown; n where that is not told
abbrev pub number_or : Option Numbered → ℕ → ℕ
number_or None n = n
number_or (Some v) n = v.number
